-- `sections::row` meets its contract: what does not fit in the bytes passed is gathered. Assumes nothing.
use mathlib.Core.Path.{◌≡◌, refl}
use Prim.Native.Nat.{◌+◌, ◌*◌}
use native.Mathlib.Omega.{arith}
use Rattle.cells.specs.Bits.{bytes_have}
use Rattle.sets.proofs.GatherLaws.{gathered_none}
use Rattle.sections.proofs.RowLaws.{gather_more, row_gathered}
use Rattle.sections.proofs.row.Goals as goal

pub loop-i-init : goal.loop-i-init
loop-i-init c = gathered_none _

pub loop-i-preserved : goal.loop-i-preserved
loop-i-preserved c = let a = c.args in
    let l = c.loop-i in
    gather_more a.locks.now a.live.now a.e l.acc l.i _ _ _ refl refl refl (c.type_inv.locks (a.e * 64 + l.i)).fits (omega arith) l.invariant

pub returns : goal.returns
returns c = let a = c.args in
    let l = c.loop-i in
    let done : l.i ≡ 32 = omega arith in
    row_gathered a.locks.now (bytes_have a.live.now 0) a.e l.acc (rw done at l.invariant)
