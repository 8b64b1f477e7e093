-- Arrows between groups (a directed graph): labels of groups, arrows by place, and what comes to a label. Assumes nothing.
use Rattle.std.specs.Prelude.{◌≡◌, Bool, true, not, cond, ◌&&◌, ◌||◌, List, [], map, ℕ, zero, suc, ◌<◌, eqb, get_or}
use Rattle.rules.specs.Base.{all_below, any_below, count_below, table}
use Rattle.rules.specs.Sets.{Set, Rel, only, reach}
use Rattle.rules.specs.Window.{TieRecord}
use Rattle.rules.specs.Ties.{is_group, is_arrow}
use Rattle.layout.specs.Records.{tie_of, tie_at}

-- TIES IN ROWS OF FOUR BYTES
-- the tie of a row: kind, leader, follower
abbrev pub tie_of_row : List ℕ → TieRecord
tie_of_row row = tie_of (get_or row 0 0) (get_or row 1 0) (get_or row 2 0)

-- the tie at a place of rows
unfoldable pub tie_in_rows : List (List ℕ) → ℕ → TieRecord
tie_in_rows rows j = tie_of_row (get_or rows j [])

-- LABELS: one for each change, the same for two of one group
-- each change's own number
unfoldable pub own_labels : List ℕ
own_labels = table 256 0 (λ k. k)

-- a new label in place of an old one
unfoldable pub instead : ℕ → ℕ → ℕ → ℕ
instead old new x = cond (eqb x old) new x

-- a group tie gives its follower's group the label of its leader's
unfoldable pub joined : TieRecord → List ℕ → List ℕ
joined t l = cond (is_group t.kind) (map (instead (get_or l t.follower 0) (get_or l t.leader 0)) l) l

-- the labels after the first ties
unfoldable pub labelled : (ℕ → TieRecord) → ℕ → List ℕ → List ℕ
labelled t zero l = l
labelled t (suc j) l = joined (t j) (labelled t j l)

-- ARROWS, by place (numbered edges)
pub record Graph : Type 0 where
  -- whether one stands there
  pub arrow : ℕ → Bool
  -- the label that it goes from, and the label that it comes to
  pub from : ℕ → ℕ
  pub to : ℕ → ℕ

-- an arrow stands at a place of ties
unfoldable pub arrow_in : (ℕ → TieRecord) → ℕ → Bool
arrow_in t j = is_arrow (t j).kind

-- the arrows of ties, between the labels of their ends
unfoldable pub graph_in : (ℕ → TieRecord) → List ℕ → Graph
graph_in t labels = record {
  arrow = arrow_in t;
  from = λ j. get_or labels (t j).leader 0;
  to = λ j. get_or labels (t j).follower 0;
}

-- those of ties in bytes
abbrev pub graph_of : List ℕ → List ℕ → Graph
graph_of bs labels = graph_in (tie_at bs) labels

-- one of the first m arrows goes from a to b
unfoldable pub edge : Graph → ℕ → Rel
edge G m a b = any_below m (λ j. G.arrow j && eqb (G.from j) a && eqb (G.to j) b)

-- none of the first m arrows ends where they lead back to its beginning
unfoldable pub no_cycle : Graph → ℕ → Bool
no_cycle G m = all_below m (λ j. not (G.arrow j) || not (reach 256 (edge G m) (G.to j) (G.from j)))

-- each of the first m arrows goes from a member of a set to a member
pub record Between (G : Graph) (m : ℕ) (s : Set) : Type 0 where
  pub leads : (j : ℕ) → j < m → G.arrow j ≡ true → s (G.from j) ≡ true
  pub follows : (j : ℕ) → j < m → G.arrow j ≡ true → s (G.to j) ≡ true

-- WHAT COMES TO A LABEL, AND WHAT GOES FROM IT
-- how many of the first m arrows come to k from a set (its in-degree)
unfoldable pub comes : Graph → Set → ℕ → ℕ → ℕ
comes G s m k = count_below m (λ j. G.arrow j && s (G.from j) && eqb (G.to j) k)

-- one of the first m arrows goes from k
unfoldable pub leads : Graph → ℕ → Set
leads G m k = any_below m (λ j. G.arrow j && only k (G.from j))

-- the place after the last of the first m arrows that goes from k; 0 where none does
unfoldable pub last_from : Graph → ℕ → ℕ → ℕ
last_from G k zero = 0
last_from G k (suc m) = cond (G.arrow m && only k (G.from m)) (suc m) (last_from G k m)

-- what is left, and no arrow comes to it
unfoldable pub sources : Set → Set → Set
sources left blocked k = left k && not (blocked k)
