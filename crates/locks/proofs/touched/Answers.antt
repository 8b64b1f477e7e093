-- `locks::touched` meets its contract: the bytes passed are gathered in the or. Assumes nothing.
use mathlib.Core.Path.{◌≡◌, ap, ◌∙◌}
use mathlib.Core.Bool.{not, not-not}
use native.Mathlib.Omega.{arith}
use borrow.Author.Rules.{rules}
use Rattle.rules.specs.Base.{any_below}
use Rattle.sets.proofs.GatherLaws.{gathered_none, gathered_all}
use Rattle.locks.specs.Held.{holders_among}
use Rattle.locks.proofs.TouchLaws.{touched_more}
use Rattle.locks.proofs.touched.Goals as goal

pub loop-byte-init : goal.loop-byte-init
loop-byte-init c = gathered_none (holders_among c.args.locks.now c.args.at c.args.ended.now)

pub loop-byte-preserved : goal.loop-byte-preserved
loop-byte-preserved c = let l = c.loop-byte in let s = c in let a = s.args in
    touched_more a.locks.now a.at a.ended.now s.requires c.told-ended l.byte l.acc (omega arith) (search rules) l.invariant

pub returns : goal.returns
returns c = let l = c.loop-byte in let s = c in let a = s.args in
    let done : l.byte ≡ 32 = omega arith in
    ap not (gathered_all (holders_among a.locks.now a.at a.ended.now) l.acc (rw done at l.invariant)) ∙ not-not (any_below 256 (holders_among a.locks.now a.at a.ended.now))
