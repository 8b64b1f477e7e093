-- `locks::release` meets its contract: the entries passed have lost the set's locks. Assumes nothing.
use mathlib.Core.Path.{◌≡◌}
use Prim.Native.Nat.{ℕ}
use lib.ListN.{length}
use Rattle.rules.specs.Sets.{put_all}
use Rattle.sets.specs.Members.{members}
use Rattle.locks.proofs.WalkLaws.{Walked}
use Rattle.locks.proofs.release.Given as goal

abbrev Any : (ℕ → ℕ → ℕ) → Type 0
Any held = Unit

abbrev pub invariant-loop-entry : goal.invariant-loop-entry
invariant-loop-entry l = (length l.locks ≡ length l.initial.locks) × Walked Any (put_all (members l.ended) 0) l.initial.locks l.locks l.entry
