-- A sheet of commit order, which no call gives yet and docs/RULES.md does not have yet: the live groups, their places and the sheet; the number of orders. Assumes nothing.
use Rattle.std.specs.Prelude.{Bool, ◌&&◌, List, map, ℕ, suc, eqb, length}
use Rattle.rules.specs.Base.{count_below, lowest_below, table, any, keep}
use Rattle.rules.specs.Sets.{Set, Rel}
use Rattle.rules.specs.Window.{TieRecord, Window, live}
use Rattle.rules.specs.Ties.{is_arrow, group_of}
use Rattle.rules.specs.Orders.{place_in, orders, lowest_first}

-- 'with three 32-bit numbers: its own, its place and its group's lowest'
pub record SheetRecord : Type 0 where
  pub change : ℕ
  pub place : ℕ
  pub group : ℕ

-- 'its group's lowest'
unfoldable pub group_lowest : Window → ℕ → ℕ
group_lowest W c = lowest_below (suc W.given) (group_of W c)

-- the live groups, each by its lowest number, and how many there are
unfoldable pub is_lowest : Window → Set
is_lowest W c = live W c && eqb (group_lowest W c) c

unfoldable pub group_total : Window → ℕ
group_total W = count_below (suc W.given) (is_lowest W)

-- a group's leader groups: 'A wait or fall tie is an arrow from its leader's group to its follower's'
unfoldable pub leads_by : Window → ℕ → ℕ → TieRecord → Bool
leads_by W a b t = is_arrow t.kind && group_of W a t.leader && group_of W b t.follower

unfoldable pub leads_group : Window → Rel
leads_group W a b = any (leads_by W a b) W.ties

-- 'Among the groups whose leader groups are all placed, the one with the lowest change number comes next': the groups in that order
unfoldable pub groups_placed : Window → List ℕ
groups_placed W = lowest_first (suc W.given) (leads_group W) (group_total W) (is_lowest W)

-- 'Places count from 1; members of a group share one'
unfoldable pub place_of : Window → ℕ → ℕ
place_of W c = suc (place_in (groups_placed W) (group_lowest W c))

unfoldable pub sheet_record : Window → ℕ → SheetRecord
sheet_record W c = record { change = c; place = place_of W c; group = group_lowest W c }

-- 'one for each live change, in rising order of number'; 'treats all live changes as completed': statuses 1 to 3 are not told apart
unfoldable pub live_changes : Window → List ℕ
live_changes W = keep (live W) (table (suc W.given) 0 (λ c. c))

unfoldable pub sheet : Window → List SheetRecord
sheet W = map (sheet_record W) (live_changes W)

-- 'the exact number of orders of the groups in which each stands after all its leader groups'; 'a window with none live has one', the empty order
unfoldable pub group_orders : Window → List (List ℕ)
group_orders W = orders (suc W.given) (leads_group W) (group_total W) (is_lowest W)

unfoldable pub order_count : Window → ℕ
order_count W = length (group_orders W)

-- 'for up to 12 groups'
unfoldable pub most_counted : ℕ
most_counted = 12
