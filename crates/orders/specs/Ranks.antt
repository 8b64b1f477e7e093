-- Labels by their ranks in a set: how many members are below each. Assumes nothing.
use mathlib.Core.Path.{◌≡◌}
use mathlib.Core.Bool.{Bool, false, ◌&&◌}
use mathlib.Core.List.{List}
use Prim.Native.Nat.{ℕ, ◌<◌}
use lib.Dec.{eqb}
use lib.ListN.{get_or}
use Rattle.rules.specs.Base.{any_below, count_below, table}
use Rattle.rules.specs.Sets.{Set}
use Rattle.rules.specs.Window.{TieRecord}
use Rattle.rules.specs.Ties.{is_arrow}
use Rattle.orders.specs.Ways.{leads}

-- how many members are below each number
unfoldable pub ranks_of : Set → List ℕ
ranks_of s = table 256 0 (λ k. count_below k s)

-- the rank of a change's label
unfoldable pub rank_of : List ℕ → List ℕ → ℕ → ℕ
rank_of labels ranks c = get_or ranks (get_or labels c 0) 0

-- the tie at a place is an arrow from a label of rank a to one of rank b
unfoldable pub ranked : (ℕ → TieRecord) → List ℕ → List ℕ → ℕ → ℕ → ℕ → Bool
ranked t labels ranks a b j = is_arrow (t j).kind && eqb (rank_of labels ranks (t j).leader) a && eqb (rank_of labels ranks (t j).follower) b

-- twelve masks in which no rank leads another
pub record Leaderless (masks : List ℕ) : Type 0 where
  pub none : (a b : ℕ) → a < 12 → leads masks a b ≡ false

-- twelve masks of what each rank leads, by the first ties
pub record Led (t : ℕ → TieRecord) (labels ranks : List ℕ) (count : ℕ) (masks : List ℕ) : Type 0 where
  pub each : (a b : ℕ) → a < 12 → b < 12 → leads masks a b ≡ any_below count (ranked t labels ranks a b)
