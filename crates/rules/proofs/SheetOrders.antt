-- 'the exact number of orders of the groups in which each stands after all its leader groups'. Assumes nothing.
use mathlib.Core.Path.{◌≡◌, refl, ◌∙◌}
use mathlib.Core.Bool.{Bool, true}
use mathlib.Core.List.{Memᴰ}
use Prim.Native.Nat.{ℕ, suc, ◌≤◌}
use native.Mathlib.Nat.{le_trans}
use native.Mathlib.Omega.{arith}
use Rattle.rules.specs.Base.{count_below}
use Rattle.rules.specs.Window.{Limits, Window, live}
use Rattle.rules.specs.Orders.{ways}
use Rattle.rules.specs.Sheet.{is_lowest, group_total, leads_group, groups_placed, group_orders, order_count}
use Rattle.rules.proofs.BaseLaws.{and_left, Below, under, over, below}
use Rattle.rules.proofs.BoundLaws.{count-some}
use Rattle.rules.proofs.OrderLists.{Listed, listed, ways-orders}
use Rattle.rules.proofs.SheetLaws.{placed-order}
use Rattle.rules.proofs.SoundParts.{Sound}
use Rattle.rules.proofs.WaysLaws.{factorial, ways-none, ways-most, factorial_up, factorial_12}

module _ (W : Window) where
  -- those listed are the orders, each of them, none twice: so their number is exact
  pub orders-listed : Listed (suc W.given) (leads_group W) (is_lowest W) (group_orders W)
  unfolding group_orders group_total
  orders-listed = listed (suc W.given) (leads_group W) (group_total W) (is_lowest W) refl

  -- by recursion over sets of groups
  pub orders-ways : order_count W ≡ ways (suc W.given) (leads_group W) (group_total W) (is_lowest W)
  unfolding order_count group_orders
  orders-ways = ways-orders (suc W.given) (leads_group W) (group_total W) (is_lowest W)

  -- 'a window with none live has one'
  pub orders-none : ((c : ℕ) → live W c ≡ true → ⊥) → order_count W ≡ 1
  unfolding group_total is_lowest
  orders-none f = orders-ways ∙ ways-none (suc W.given) (leads_group W) (is_lowest W) none
    where
      none : count_below (suc W.given) (is_lowest W) ≡ 0
      none = go (below 0 (count_below (suc W.given) (is_lowest W)))
        where
          go : {b : Bool} → Below 0 (count_below (suc W.given) (is_lowest W)) b → count_below (suc W.given) (is_lowest W) ≡ 0
          go (under h) = let m = count-some (suc W.given) (is_lowest W) (λ q. omega arith) in absurd (f m.0 (and_left (live W m.0) _ m.2))
          go (over h) = omega arith

  -- the number fits: of up to 12 groups there are at most 479,001,600
  pub orders-most : order_count W ≤ factorial (group_total W)
  unfolding group_total
  orders-most = rw orders-ways (ways-most (suc W.given) (leads_group W) (group_total W) (is_lowest W) refl)

  pub orders_fit : group_total W ≤ 12 → order_count W ≤ 479001600
  orders_fit h = rw factorial_12 at (le_trans orders-most (factorial_up (group_total W) 12 h))

-- the sheet's order is one of them
pub placed-listed : (L : Limits) (W : Window) → Sound L W → Memᴰ (groups_placed W) (group_orders W)
placed-listed L W z = (orders-listed W).each (groups_placed W) (placed-order L W z)
