-- `sets::ChangeSet::spread` meets its contract: the rows of the members that are not left have been taken in. The measure is how many of 256 are none of those. Assumes nothing.
use mathlib.Core.Path.{◌≡◌}
use mathlib.Core.Bool.{not, ◌&&◌}
use Prim.Native.Nat.{◌-◌}
use lib.ListN.{length}
use Rattle.rules.specs.Base.{count_below}
use Rattle.sets.specs.Members.{members}
use Rattle.sets.proofs.SpreadLaws.{Spreading}
use Rattle.sets.proofs.ChangeSet.spread.Given as goal

abbrev pub invariant-loop-c : goal.invariant-loop-c
invariant-loop-c l = (length l.s.words ≡ 4) × Spreading l.rows (members l.initial.s) (members l.s) (members l.left)

abbrev pub decreases-loop-c : goal.decreases-loop-c
decreases-loop-c l = 256 - count_below 256 (λ k. members l.s k && not (members l.left k))
