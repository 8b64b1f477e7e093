-- Ties as rows (of an adjacency matrix): four words for each number, which hold the numbers to which a tie is gone along from it. Assumes nothing.
use Rattle.std.specs.Prelude.{Bool, ◌&&◌, ◌||◌, List, ℕ, ◌+◌, ◌*◌, ◌/◌, ◌%◌, ltb, eqb, get_or}
use Rattle.rules.specs.Base.{any_below}
use Rattle.rules.specs.Sets.{Rel}
use Rattle.rules.specs.Window.{TieRecord}
use Rattle.rules.specs.Ties.{is_group}
use Rattle.layout.specs.Codec.{unpack}
use Rattle.layout.specs.Records.{tie_at}
use Rattle.passes.specs.Passes.{follows}

-- a tie is gone along from a to b: from its leader to its follower where its kind says so, and a group tie back too
unfoldable pub gone_along : ℕ → TieRecord → Rel
gone_along low t a b = eqb a t.leader && (eqb b t.follower && follows low t.kind) || eqb a t.follower && (eqb b t.leader && is_group t.kind)

-- so of tie j of a section, and of one of the first n
unfoldable pub gone_at : ℕ → List ℕ → ℕ → ℕ → ℕ → Bool
gone_at low bs a b j = gone_along low (tie_at bs j) a b

unfoldable pub gone_in : ℕ → List ℕ → ℕ → Rel
gone_in low bs n a b = any_below n (gone_at low bs a b)

-- b is in the row of a
unfoldable pub row_has : List ℕ → Rel
row_has rows a b = ltb b 256 && unpack (get_or rows (a * 4 + b / 64) 0) (b % 64)
