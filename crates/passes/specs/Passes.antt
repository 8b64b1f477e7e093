-- What one pass over ties in bytes adds to a set. Assumes nothing.
use Rattle.std.specs.Prelude.{Bool, cond, ◌&&◌, ◌||◌, List, ℕ, zero, suc, ◌-◌, leb, eqb}
use Rattle.rules.specs.Sets.{Set}
use Rattle.rules.specs.Window.{TieRecord}
use Rattle.rules.specs.Ties.{is_group}
use Rattle.layout.specs.Records.{tie_at}

-- a tie of the kind is gone along from leader to follower, where `low` is the lowest kind that is
unfoldable pub follows : ℕ → ℕ → Bool
follows low kind = leb low kind && leb kind 3

-- the place that a pass over n ties comes to after j others: from the first on, or from the last back; and the tie there
unfoldable pub place_from : Bool → ℕ → ℕ → ℕ
place_from back n j = cond back (n - 1 - j) j

unfoldable pub tie_from : Bool → List ℕ → ℕ → ℕ → TieRecord
tie_from back bs n j = tie_at bs (place_from back n j)

-- what one tie adds: its follower where it is gone along and the leader is a member, and a group tie's leader where the follower is one
unfoldable pub pulled : ℕ → TieRecord → Set → Set
pulled low t s k = s k || eqb k t.follower && (follows low t.kind && s t.leader) || eqb k t.leader && (is_group t.kind && s t.follower)

-- a pass over the first ties: each sees what those before it added
unfoldable pub passed : ℕ → (ℕ → TieRecord) → ℕ → Set → Set
passed low t zero s = s
passed low t (suc i) s = pulled low (t i) (passed low t i s)
