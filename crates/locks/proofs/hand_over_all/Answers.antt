-- `locks::hand_over_all` meets its contract: on the entries passed the lock is moved. Assumes nothing.
use mathlib.Core.Path.{refl, ◌∙◌}
use native.Mathlib.Omega.{arith}
use Rattle.rules.specs.Base.{put}
use Rattle.rules.specs.Effects.{move_held}
use Rattle.locks.specs.Held.{Modes, changed_on}
use Rattle.locks.proofs.ChangeLaws.{moved, moved_empty, moved_keeps}
use Rattle.locks.proofs.WalkLaws.{first_entries, walked_none, walked_next, walked_all}
use Rattle.locks.proofs.hand_over_all.Goals as goal

pub loop-i-init : goal.loop-i-init
loop-i-init c = (refl, walked_none Modes (moved c.args.from c.args.to) c.args.locks.now)

pub hand_over-requires : goal.hand_over-requires
hand_over-requires c = c.loop-i.invariant.0 ∙ c.requires.0

pub loop-i-preserved : goal.loop-i-preserved
unfolding move_held changed_on moved put
loop-i-preserved c = let l = c.loop-i in
    let a = c.args in
    let call = c.hand_over in
    (call.auto.locks ∙ l.invariant.0, walked_next Modes (moved a.from a.to) a.locks.now _ _ l.i (moved_keeps a.from a.to (first_entries l.i)) call.ensures l.invariant.1)

pub shape_of-locks : goal.shape_of-locks
shape_of-locks c = c.loop-i.invariant.0

pub returns : goal.returns
unfolding move_held changed_on moved put
returns c held modes none e = let l = c.loop-i in
    let a = c.args in
    walked_all Modes (moved a.from a.to) a.locks.now _ l.i a.entries (omega arith) (moved_empty a.from a.to) l.invariant.1 held modes none e
