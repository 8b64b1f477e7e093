-- The arrows between labelled groups close no cycle just where the ties are acyclic as the rules say. Assumes nothing.
use mathlib.Core.Path.{◌≡◌, refl, sym, ◌∙◌}
use mathlib.Core.Bool.{Bool, true, false, false≢true}
use mathlib.Core.Logic.{⊎_elim}
use mathlib.Core.List.{List}
use Prim.Native.Nat.{ℕ, ◌<◌}
use native.Mathlib.Omega.{arith}
use lib.ListN.{length, get_or}
use Rattle.rules.specs.Base.{any_below}
use Rattle.rules.specs.Window.{TieRecord}
use Rattle.rules.specs.Ties.{is_group, is_arrow, tied, grouped, acyclic}
use Rattle.rules.proofs.BaseLaws.{or_left, or_cases, both_ways, any_below_none}
use Rattle.rules.proofs.TieLaws.{grouped_both}
use Rattle.rules.proofs.PathLaws.{Way, stay, on, Arrow, Arrows, one, more, extend, acyclic_paths}
use Rattle.layout.specs.Codec.{no_tie}
use Rattle.layout.specs.Records.{ends_below}
use Rattle.layout.proofs.ReadLaws.{tied-place, tied_at}
use Rattle.cycles.specs.Graph.{Graph, own_labels, labelled, arrow_in, graph_in, edge, no_cycle}
use Rattle.cycles.proofs.LabelLaws.{Labels, labels_all, small_labels}
use Rattle.cycles.proofs.CycleLaws.{Small, small_graph, edge_at, edge-place, no_cycle_ways}

-- a list of ties by place, its ends bytes, and the labels of its groups
module _ (t : ℕ → TieRecord) (ts : List TieRecord) (m : ℕ) (len : length ts ≡ m) (is : (j : ℕ) → j < m → t j ≡ get_or ts j no_tie) (leaders : (j : ℕ) → (t j).leader < 256) (followers : (j : ℕ) → (t j).follower < 256) where
  -- the labels, and the arrows between them
  abbrev labels : List ℕ
  labels = labelled t m own_labels

  abbrev label : ℕ → ℕ
  label k = get_or labels k 0

  abbrev G : Graph
  G = graph_in t labels

  -- a tie at a place stands
  stands : (k : ℕ → Bool) (j : ℕ) → j < m → k (t j).kind ≡ true → tied ts k (t j).leader (t j).follower ≡ true
  stands k j h e = let q = is j h in rw q (tied_at ts k j (omega arith) (rw q at e))

  -- the place of a tie that stands
  place : (k : ℕ → Bool) (a b : ℕ) → tied ts k a b ≡ true → (j : ℕ) × (j < m) × (k (t j).kind ≡ true) × ((t j).leader ≡ a) × ((t j).follower ≡ b)
  place k a b e = let s = tied-place ts k a b e in let l : s.place < m = omega (arith, s.below) in let q = is s.place l in (s.place, l, rw q s.has, rw q s.leads, rw q s.follow)

  -- one label just where group ties lead
  by_label : Labels (grouped ts) t m labels
  unfolding grouped
  by_label = labels_all (grouped ts) (grouped_both ts) t leaders followers m (λ j h e. or_left (tied ts is_group (t j).leader (t j).follower) _ (stands is_group j h e))

  -- group ties have one label at their ends
  tied_label : (a b : ℕ) → tied ts is_group a b ≡ true → label a ≡ label b
  tied_label a b e = let s = place is_group a b e in rw (s.3, s.4) at (by_label.agree s.0 s.1 s.2)

  -- and so have ways along them
  way_label : {a b : ℕ} → Way (grouped ts) a b → label a ≡ label b
  unfolding grouped
  way_label stay = refl
  way_label (on {b = x} {c = y} p e) = way_label p ∙ ⊎_elim (tied_label x y) (λ q. sym (tied_label y x q)) (or_cases (tied ts is_group x y) (tied ts is_group y x) e)

  -- labels are bytes
  small : Small G m
  small = small_graph t labels (small_labels t m) m

  -- PATHS OF ARROWS
  -- an arrow from group to group is one from label to label
  arrow-edge : {x y : ℕ} → Arrow ts x y → edge G m (label x) (label y) ≡ true
  unfolding graph_in arrow_in
  arrow-edge a = let s = place is_arrow a.leader a.follower a.tie in
      rw (way_label a.leaves, sym (way_label a.enters)) (rw (s.3, s.4) at (edge_at G m s.0 s.1 s.2))

  -- a path of them
  arrows_way : {x y : ℕ} → Arrows ts x y → (b : ℕ) × (edge G m (label x) b ≡ true) × Way (edge G m) b (label y)
  arrows_way (one a) = (_, arrow-edge a, stay)
  arrows_way (more p a) = let w = arrows_way p in (w.0, w.1, on w.2 (arrow-edge a))

  -- the arrow at a place, from its leader's group to wherever its follower's label stands
  arrow_at_lem : (j : ℕ) → j < m → is_arrow (t j).kind ≡ true → (z : ℕ) → z < 256 → label (t j).follower ≡ label z → Arrow ts (t j).leader z
  arrow_at_lem j h e z l q = record { leader = (t j).leader; follower = (t j).follower; leaves = stay; tie = stands is_arrow j h e; enters = by_label.reach (t j).follower z (followers j) l q }

  -- a path of arrows goes on along a way from label to label
  way_arrows : {b c : ℕ} → Way (edge G m) b c → (x y z : ℕ) → y < 256 → z < 256 → label y ≡ b → label z ≡ c → Arrows ts x y → Arrows ts x z
  unfolding graph_in arrow_in
  way_arrows stay x y z hy hz ly lz p = extend ts p (by_label.reach y z hy hz (ly ∙ sym lz))
  way_arrows (on {b = d} {c = c} w e) x y z hy hz ly lz p =
      let s = edge-place G m d c e in
      more (way_arrows w x y (t s.0).leader hy (leaders s.0) ly s.3 p) (arrow_at_lem s.0 s.1 s.2 z hz (s.4 ∙ sym lz))

  -- no cycle of labels is no path of arrows that returns to its group
  acyclic_graph : (n : ℕ) → ends_below n ts ≡ true → no_cycle G m ≡ acyclic n ts
  unfolding ends_below graph_in arrow_in
  acyclic_graph n ends = both_ways (no_cycle G m) (acyclic n ts)
      (λ e. (acyclic_paths ts n ends).1 (λ x p. let w = arrows_way p in (no_cycle_ways G m small).0 e (label x) w.0 w.1 w.2))
      (λ e. (no_cycle_ways G m small).1 (λ a b q w.
      let s = edge-place G m a b q in
      let l = (t s.0).leader in
      let f = (t s.0).follower in
      (acyclic_paths ts n ends).0 e l (way_arrows w l f l (followers s.0) (leaders s.0) s.4 s.3 (one (arrow_at_lem s.0 s.1 s.2 f (followers s.0) refl)))))

  -- what elimination over the labels answers
  pub acyclic_labels : (l : List ℕ) (r : Bool) → l ≡ labels → r ≡ no_cycle (graph_in t l) m → (n : ℕ) → ends_below n ts ≡ true → r ≡ acyclic n ts
  acyclic_labels l r e q n ends = rw e at q ∙ acyclic_graph n ends

  -- where no arrow stands
  pub acyclic_none : (b : Bool) → b ≡ any_below m (arrow_in t) → b ≡ false → (n : ℕ) → ends_below n ts ≡ true → true ≡ acyclic n ts
  unfolding graph_in
  acyclic_none b q h n ends = sym ((no_cycle_ways G m small).1 (λ x y p w. let s = edge-place G m x y p in false≢true (sym (any_below_none m (arrow_in t) (sym q ∙ h) s.0 s.1) ∙ s.2))) ∙ acyclic_graph n ends
