-- Arrows close no cycle just where taking away, one at a time, what no arrow comes to leaves nothing (a topological sort). Assumes nothing.
use mathlib.Core.Path.{◌≡◌, refl, sym, ◌∙◌}
use mathlib.Core.Bool.{Bool, true, false, not, ◌&&◌, ◌||◌, false≢true, true≢false}
use mathlib.Core.Logic.{◌↔◌}
use mathlib.Core.List.{List}
use Prim.Native.Nat.{ℕ, ◌<◌}
use lib.Dec.{eqb}
use borrow.Author.Tests.{not-true}
use Rattle.rules.specs.Base.{all_below, any_below}
use Rattle.rules.specs.Sets.{Set, reach}
use Rattle.rules.specs.Window.{TieRecord}
use Rattle.rules.proofs.BaseLaws.{and_eqs, any_intro, any_elim, any_below_none, all_below_intro, all_below_at, both_ways, no_true, eqb_same, Same, same, other, same?}
use Rattle.rules.proofs.PathLaws.{Way, stay, on, way_join, Bounded, reach_ways}
use Rattle.rules.proofs.SourceLaws.{source}
use Rattle.layout.proofs.SectionLaws.{Bytes}
use Rattle.cycles.specs.Graph.{Graph, graph_in, edge, no_cycle}

-- labels below 256
abbrev pub Small : Graph → ℕ → Type 0
Small G m = (j : ℕ) → j < m → (G.from j < 256) × (G.to j < 256)

-- labels that are bytes
pub small_graph : (t : ℕ → TieRecord) (labels : List ℕ) → Bytes labels → (m : ℕ) → Small (graph_in t labels) m
unfolding graph_in
small_graph t labels h m j l = (h _, h _)

-- no path leads from an arrow's end to its beginning
abbrev pub Free : Graph → ℕ → Type 0
Free G m = (a b : ℕ) → edge G m a b ≡ true → Way (edge G m) b a → ⊥

module _ (G : Graph) (m : ℕ) where
  -- an arrow at a place
  pub edge_at : (j : ℕ) → j < m → G.arrow j ≡ true → edge G m (G.from j) (G.to j) ≡ true
  unfolding edge
  edge_at j h e = any_intro m (λ i. G.arrow i && eqb (G.from i) (G.from j) && eqb (G.to i) (G.to j)) j h (rw (e, eqb_same (G.from j), eqb_same (G.to j)))

  -- the place of an arrow
  pub edge-place : (a b : ℕ) → edge G m a b ≡ true → (j : ℕ) × (j < m) × (G.arrow j ≡ true) × (G.from j ≡ a) × (G.to j ≡ b)
  unfolding edge
  edge-place a b e = let w = any_elim m (λ i. G.arrow i && eqb (G.from i) a && eqb (G.to i) b) e in let q = and_eqs (G.arrow w.0) (G.from w.0) a (G.to w.0) b w.2 in (w.0, w.1, q.0, q.1, q.2)

  module _ (small : Small G m) where
    -- arrows between numbers below 256
    edge_bounded : Bounded 256 (edge G m)
    edge_bounded a b e = let w = edge-place a b e in (rw (← w.3) (small w.0 w.1).0, rw (← w.4) (small w.0 w.1).1)

    -- the test in words of paths
    pub no_cycle_ways : no_cycle G m ≡ true ↔ Free G m
    unfolding no_cycle
    no_cycle_ways = (to, λ f. all_below_intro m _ (λ j h. back f j h (G.arrow j) refl))
      where
        to : all_below m (λ j. not (G.arrow j) || not (reach 256 (edge G m) (G.to j) (G.from j))) ≡ true → Free G m
        to h a b e p =
            let w = edge-place a b e in
            let q : not (G.arrow w.0) || not (reach 256 (edge G m) (G.to w.0) (G.from w.0)) ≡ true = all_below_at m (λ j. not (G.arrow j) || not (reach 256 (edge G m) (G.to j) (G.from j))) h w.0 w.1 in
            false≢true (rw (w.2, w.3, w.4, (reach_ways 256 (edge G m) edge_bounded b a).1 p) at q)

        back : Free G m → (j : ℕ) → j < m → (b : Bool) → G.arrow j ≡ b → not b || not (reach 256 (edge G m) (G.to j) (G.from j)) ≡ true
        back f j h false e = refl
        back f j h true e = rw (no_true (reach 256 (edge G m) (G.to j) (G.from j)) (λ q. f (G.from j) (G.to j) (edge_at j h e) ((reach_ways 256 (edge G m) edge_bounded (G.to j) (G.from j)).0 q)))

    -- without cycles, no set has for each of its members an arrow to it from a member
    none_blocked : Free G m → (left : Set) → ((x : ℕ) → x < 256 → left x ≡ true → (y : ℕ) × (left y ≡ true) × (edge G m y x ≡ true)) → (x : ℕ) → x < 256 → left x ≡ true → ⊥
    none_blocked f left blocked x h e = true≢false (source 256 (edge G m) edge_bounded left (λ v. true) by x h e).3
      where
        by : (v : ℕ) → v < 256 → left v ≡ true → ◌≡◌ {A = Bool} true true → (y : ℕ) × (y < 256) × (left y ≡ true) × Way (edge G m) y v × (Way (edge G m) v y → ⊥)
        by v l q t = let w = blocked v l q in (w.0, (edge_bounded w.0 v w.2).0, w.1, on stay w.2, f w.0 v w.2)

-- no cycle goes through what was taken away
abbrev pub Clear : Graph → ℕ → Set → Type 0
Clear G m left = (x y : ℕ) → left x ≡ false → edge G m x y ≡ true → Way (edge G m) y x → ⊥

module _ (G : Graph) (m : ℕ) where
  -- nothing is taken away that leads
  pub clear_none : (left : Set) → ((j : ℕ) → j < m → G.arrow j ≡ true → left (G.from j) ≡ true) → Clear G m left
  clear_none left h x y u e p = let w = edge-place G m x y e in false≢true (sym u ∙ rw w.3 at (h w.0 w.1 w.2))

  -- one is taken away, to which no arrow comes from what is left
  pub clear_next : (left rest : Set) (v : ℕ) → Clear G m left → left v ≡ true → ((u : ℕ) → edge G m u v ≡ true → left u ≡ false) → ((k : ℕ) → rest k ≡ not (eqb k v) && left k) → Clear G m rest
  clear_next left rest v z w none is x y u e p = go (same? x v) (sym (is x) ∙ u) e p
    where
      turn : {y : ℕ} → edge G m v y ≡ true → Way (edge G m) y v → ⊥
      turn e stay = false≢true (sym (none v e) ∙ w)
      turn e (on {b = b} p q) = z b v (none b q) q (way_join (on stay e) p)

      go : {b : Bool} → Same x v b → not b && left x ≡ false → edge G m x y ≡ true → Way (edge G m) y x → ⊥
      go (same q) s e p = turn (rw q at e) (rw q at p)
      go (other q) s e p = z x y s e p

  -- what is left when each member is blocked by another decides
  pub decided : Small G m → (left : Set) → Clear G m left → ((x : ℕ) → x < 256 → left x ≡ true → (y : ℕ) × (left y ≡ true) × (edge G m y x ≡ true)) → not (any_below 256 left) ≡ no_cycle G m
  decided small left z blocked = both_ways (not (any_below 256 left)) (no_cycle G m)
      (λ e. (no_cycle_ways G m small).1 (λ a b q p. z a b (any_below_none 256 left (not-true _ e) a (edge_bounded G m small a b q).0) q p))
      (λ e. let f = (no_cycle_ways G m small).0 e in rw (no_true (any_below 256 left) (λ q. let w = any_elim 256 left q in none_blocked G m small f left blocked w.0 w.1 w.2)))
