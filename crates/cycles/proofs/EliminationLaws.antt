-- Labels taken away one at a time, each with no arrow to it from what is left. Assumes nothing.
use mathlib.Core.Path.{◌≡◌, refl, sym, ◌∙◌}
use mathlib.Core.Bool.{Bool, true, false, not, ◌&&◌, false≢true, and-true}
use mathlib.Core.List.{List}
use Prim.Native.Nat.{ℕ, ◌≤◌, ◌<◌}
use native.Mathlib.Omega.{arith}
use lib.Dec.{eqb}
use lib.ListN.{get_or}
use borrow.Author.Tests.{not-true, not-false, eqb-true}
use Rattle.rules.specs.Base.{any_below, count_below, lowest_below}
use Rattle.rules.specs.Sets.{Set, everything, only}
use Rattle.rules.proofs.BaseLaws.{and_left, and_right, any_intro, eqb_same}
use Rattle.rules.proofs.BoundLaws.{count_none, count-some, count_ext, count-more, lowest_found, lowest_below_lem}
use Rattle.cycles.specs.Graph.{Graph, edge, no_cycle, comes, leads, sources}
use Rattle.cycles.specs.Links.{Lists, Linked, Shows, Removable, Removed}
use Rattle.cycles.proofs.CycleLaws.{Small, Clear, edge_at, edge-place, clear_none, clear_next, decided}
use Rattle.cycles.proofs.CountLaws.{comes-last, last_most, last_again, comes-within, comes-parts}

-- what is left: the arrows that come from it are counted and shown, and no cycle goes through what was taken away
pub record Eliminating (G : Graph) (m : ℕ) (incoming : List ℕ) (left blocked : Set) : Type 0 where
  pub counted : (k : ℕ) → k < 256 → get_or incoming k 0 ≡ comes G left m k
  pub shown : Shows incoming blocked
  pub clear : Clear G m left

-- at first all that lead is left
module _ (G : Graph) (m : ℕ) (s : Lists) (p : Linked G m s) where
  -- each arrow goes from one of them
  lead : (j : ℕ) → j < m → G.arrow j ≡ true → s.leaders (G.from j) ≡ true
  unfolding leads only
  lead j h a = p.leaders (G.from j) ∙ any_intro m (λ i. G.arrow i && eqb (G.from i) (G.from j)) j h (rw (a, eqb_same (G.from j)))

  -- so each is counted
  from_all : (k : ℕ) → comes G everything m k ≡ comes G s.leaders m k
  unfolding comes everything
  from_all k = count_ext _ _ m (λ j h. go j h (G.arrow j) refl)
    where
      go : (j : ℕ) → j < m → (a : Bool) → G.arrow j ≡ a → a && true && eqb (G.to j) k ≡ a && s.leaders (G.from j) && eqb (G.to j) k
      go j h false e = refl
      go j h true e = rw (lead j h e)

  -- nothing is taken away yet
  pub eliminating_none : Eliminating G m s.incoming s.leaders s.blocked
  eliminating_none = record {
    counted = λ k h. p.incoming k h ∙ from_all k;
    shown = record { counted = λ k h. rw (p.incoming k h) (p.blocked k) };
    clear = clear_none G m s.leaders lead;
  }

-- the arrows from a label stand in the first m places
pub source_most : {G : Graph} {m : ℕ} {s : Lists} → Linked G m s → (v : ℕ) → v < 256 → get_or s.heads v 0 ≤ m
source_most {G} {m} q v h = rw (q.heads v h) (last_most G v m)

module _ (G : Graph) (m : ℕ) (incoming : List ℕ) (left blocked : Set) (p : Eliminating G m incoming left blocked) where
  -- no arrow comes to an unblocked label from what is left
  unblocked : (v : ℕ) → v < 256 → blocked v ≡ false → (u : ℕ) → edge G m u v ≡ true → left u ≡ false
  unfolding comes
  unblocked v h e u q =
      let w = edge-place G m u v q in
      let z : comes G left m v ≡ 0 = sym (p.counted v h) ∙ eqb-true (get_or incoming v 0) 0 (not-false _ (sym (p.shown.counted v h) ∙ e)) in
      let n : G.arrow w.0 && left (G.from w.0) && eqb (G.to w.0) v ≡ false = count_none m _ z w.0 w.1 in
      sym (and-true (left u)) ∙ (rw (w.2, w.3, w.4, eqb_same v) at n)

  -- to a blocked one an arrow comes from what is left
  blocked_by : (v : ℕ) → v < 256 → blocked v ≡ true → (y : ℕ) × (left y ≡ true) × (edge G m y v ≡ true)
  unfolding comes
  blocked_by v h e =
      let w = count-some m (λ j. G.arrow j && left (G.from j) && eqb (G.to j) v)
      (λ z. false≢true (sym (rw (p.counted v h, z) at (p.shown.counted v h)) ∙ e)) in
      let a = and_left (G.arrow w.0 && left (G.from w.0)) (eqb (G.to w.0) v) w.2 in
      let t = eqb-true (G.to w.0) v (and_right (G.arrow w.0 && left (G.from w.0)) (eqb (G.to w.0) v) w.2) in
      (G.from w.0, and_right (G.arrow w.0) (left (G.from w.0)) a, rw t at (edge_at G m w.0 w.1 (and_left (G.arrow w.0) (left (G.from w.0)) a)))

  -- where each that is left is blocked, whether any is left decides
  pub eliminating_end : Small G m → (r : ℕ) → r ≡ lowest_below 256 (sources left blocked) → 256 ≤ r → (b : Bool) → b ≡ not (any_below 256 left) → b ≡ no_cycle G m
  unfolding sources
  eliminating_end small r e l b d = d ∙ decided G m small left p.clear (λ x h q. blocked_by x h (not-false (blocked x) (rw q at (lowest_below_lem (λ k. left k && not (blocked k)) 256 x (omega (arith, e))))))

  -- the lowest source
  module _ (v : ℕ) (e : v ≡ lowest_below 256 (sources left blocked)) (h : v < 256) where
    -- it is one
    found : sources left blocked v ≡ true
    found = rw e (lowest_found (sources left blocked) 256 (rw e at h))

    -- it is left
    is_left : left v ≡ true
    unfolding sources
    is_left = and_left (left v) (not (blocked v)) found

    -- and not blocked
    not_blocked : blocked v ≡ false
    unfolding sources
    not_blocked = not-true (blocked v) (and_right (left v) (not (blocked v)) found)

    -- its arrows can be removed
    pub source_removable : (s : Lists) → Linked G m s → Removable G v (get_or s.heads v 0) s.next incoming blocked
    unfolding only
    source_removable s q = record {
      starts = rw (q.heads v h) (last_again G v m);
      follows = λ j l a. q.next j (omega (arith, q.heads v h, last_most G v m)) a;
      enough = λ i l. rw (q.heads v h, comes-last G v m i, p.counted i l) (comes-within G (only v) left m i (λ k z. rw (eqb-true k v z) is_left));
      shown = p.shown;
    }

    -- it is taken away
    module _ (rest : Set) (is : (k : ℕ) → rest k ≡ not (eqb k v) && left k) where
      -- what was said holds of the rest
      pub eliminating_next : (s : Lists) → Linked G m s → (after : List ℕ) (more : Set) → Removed G v (get_or s.heads v 0) incoming after more → Eliminating G m after rest more
      eliminating_next s q after more r = record {
        counted = λ i l.
            let a = r.fewer i l in
            let b : comes G (only v) (get_or s.heads v 0) i ≡ comes G (only v) m i = rw (q.heads v h) (comes-last G v m i) in
            let d = comes-parts G left rest v m i is_left is in
            let c = p.counted i l in
            omega arith;
        shown = r.shown;
        clear = clear_next G m left rest v p.clear is_left (unblocked v h not_blocked) is;
      }

      -- which is less
      pub eliminating_less : count_below 256 rest < count_below 256 left
      eliminating_less = count-more 256 rest left (λ k l z. and_right (not (eqb k v)) (left k) (sym (is k) ∙ z)) v h (is v ∙ rw (eqb_same v)) is_left
