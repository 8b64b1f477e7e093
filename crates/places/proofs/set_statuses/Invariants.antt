-- `places::set_statuses` meets its contract: the members that are not left any more have the status. The measure is what is left of 256. Assumes nothing.
use mathlib.Core.Path.{◌≡◌}
use mathlib.Core.Bool.{true}
use Prim.Native.Nat.{ℕ, ◌-◌}
use lib.ListN.{length}
use Rattle.rules.specs.Base.{lowest_below}
use Rattle.rules.specs.Sets.{put_all}
use Rattle.layout.specs.Codec.{change_section}
use Rattle.sets.specs.Members.{members}
use Rattle.places.proofs.StatusLaws.{passed}
use Rattle.places.proofs.set_statuses.Given as goal

abbrev pub invariant-loop-c : goal.invariant-loop-c
invariant-loop-c l = (length l.changes ≡ 1024) × ((k : ℕ) → members l.left k ≡ true → members l.initial.left k ≡ true)
    × ((st pa : ℕ → ℕ) → l.initial.changes ≡ change_section st pa → l.changes ≡ change_section (put_all (passed (members l.initial.left) (members l.left)) l.s st) pa)

abbrev pub decreases-loop-c : goal.decreases-loop-c
decreases-loop-c l = 256 - lowest_below 256 (members l.left)
