-- `cells::run_zero` meets its contract: the or of the bytes so far is 0 where they all are. Assumes nothing.
use mathlib.Core.Path.{◌≡◌, refl, ◌∙◌}
use Prim.Native.Nat.{◌+◌}
use native.Mathlib.Omega.{arith}
use Rattle.std.proofs.lemmas.List.Edits.{length-between, get_or-between}
use Rattle.rules.specs.Base.{all_below}
use Rattle.cells.proofs.ZeroLaws.{zero_more}
use Rattle.cells.proofs.run_zero.Goals as goal

pub loop-byte-init : goal.loop-byte-init
unfolding all_below
loop-byte-init c = refl

pub loop-byte-preserved : goal.loop-byte-preserved
loop-byte-preserved c = let l = c.loop-byte in let a = c.args in
    let size = length-between a.s.now a.at (a.at + a.n) c.requires in
    rw (get_or-between a.s.now a.at (a.at + a.n) l.byte-index 0 (omega arith)) (zero_more a.s.now a.at l.byte-index l.acc l.invariant)

pub returns : goal.returns
returns c = let l = c.loop-byte in let a = c.args in
    let size = length-between a.s.now a.at (a.at + a.n) c.requires in
    let done : l.byte-index ≡ a.n = omega arith in l.invariant ∙ rw done
