-- The arrows from a label removed one by one, the last first. Assumes nothing.
use mathlib.Core.Path.{◌≡◌, refl, sym, ap, ◌∙◌}
use mathlib.Core.Bool.{Bool, true, not, ◌&&◌, and-true, and-false}
use mathlib.Core.List.{List}
use Prim.Native.Nat.{ℕ, suc, ◌+◌, ◌-◌, ◌≤◌, ◌<◌}
use native.Mathlib.Nat.{add-zero}
use native.Mathlib.Omega.{arith}
use lib.Dec.{eqb}
use lib.ListN.{length, get_or, set, length-set}
use lib.Seq.{get_or-set_same, get_or-set_other}
use borrow.Author.Tests.{ne_eqb}
use Rattle.rules.specs.Sets.{Set, only}
use Rattle.rules.proofs.BaseLaws.{eqb_same, Same, same, other, same?}
use Rattle.cycles.specs.Graph.{Graph, comes, last_from}
use Rattle.cycles.specs.Links.{Shows, Removable, Removed}
use Rattle.cycles.proofs.CountLaws.{comes_zero, comes-one, comes_other, comes-last, last_most, last_again, last_hit}

-- ONE ARROW
-- the last to k
pub last_gone : (n k : ℕ) (s r : Set) → n ≡ 0 → ((i : ℕ) → r i ≡ not (eqb i k) && s i) → (i : ℕ) → r i ≡ not (eqb i k && eqb n 0) && s i
last_gone n k s r e h i = rw (e, eqb_same 0, and-true (eqb i k)) (h i)

-- one of more
pub more_left : (n k : ℕ) (s : Set) → (n ≡ 0 → ⊥) → (i : ℕ) → s i ≡ not (eqb i k && eqb n 0) && s i
more_left n k s h i = rw (ne_eqb n 0 h, and-false (eqb i k))

-- the set goes on showing the counts
shows_next : (incoming after : List ℕ) (blocked rest : Set) (k : ℕ) → k < length incoming → 0 < get_or incoming k 0 → after ≡ set incoming k (get_or incoming k 0 - 1)
    → ((i : ℕ) → rest i ≡ not (eqb i k && eqb (get_or incoming k 0 - 1) 0) && blocked i) → Shows incoming blocked → Shows after rest
shows_next incoming after blocked rest k l pos e h s = record { counted = λ i q. rw (e, h i) (at i q (same? i k)) }
  where
    at : (i : ℕ) → i < 256 → {b : Bool} → Same i k b → not (b && eqb (get_or incoming k 0 - 1) 0) && blocked i ≡ not (eqb (get_or (set incoming k (get_or incoming k 0 - 1)) i 0) 0)
    at i q (same u) = rw (u, get_or-set_same incoming k (get_or incoming k 0 - 1) 0 l, s.counted k (rw u at q), ne_eqb (get_or incoming k 0) 0 (λ z. omega arith)) (and-true _)
    at i q (other u) = rw (get_or-set_other incoming k i (get_or incoming k 0 - 1) 0 u) (s.counted i q)

-- ALL OF THEM
-- those from place e on are gone: the counts have fallen by them
pub record Removing (G : Graph) (k h : ℕ) (before incoming : List ℕ) (blocked : Set) (e : ℕ) : Type 0 where
  pub long : length incoming ≡ 256
  pub within : e ≤ h
  pub last : e ≡ last_from G k e
  pub fewer : (i : ℕ) → i < 256 → get_or incoming i 0 + comes G (only k) h i ≡ get_or before i 0 + comes G (only k) e i
  pub shown : Shows incoming blocked

-- all are gone at the end
pub removing_all : {G : Graph} {k h e : ℕ} {before incoming : List ℕ} {blocked : Set} → Removing G k h before incoming blocked e → e ≡ 0 → Removed G k h before incoming blocked
removing_all {G} {k} r z = record { fewer = λ i q. r.fewer i q ∙ rw (z, comes_zero G (only k) i) (add-zero _); shown = r.shown }

module _ (G : Graph) (k h : ℕ) (next before : List ℕ) (first : Set) (p : Removable G k h next before first) where
  -- none is gone at first
  pub removing_none : length before ≡ 256 → Removing G k h before before first h
  removing_none l = record { long = l; within = omega arith; last = p.starts; fewer = λ i q. refl; shown = p.shown }

  module _ (incoming : List ℕ) (blocked : Set) (d j : ℕ) (at_j : d ≡ suc j) (q₀ : Removing G k h before incoming blocked d) where
    -- what holds where j is the arrow to remove
    r : Removing G k h before incoming blocked (suc j)
    r = rw at_j at q₀

    -- the arrow at j goes from k
    here : (G.arrow j ≡ true) × (G.from j ≡ k)
    here = last_hit G k j r.last

    -- it was counted
    counted : G.to j < 256 → 0 < get_or incoming (G.to j) 0
    unfolding only
    counted l = omega (arith, r.fewer (G.to j) l, p.enough (G.to j) l, comes-one G (only k) j (G.to j) here.0 (rw here.1 (eqb_same k)) refl)

    -- it is removed: the list goes on at the one before
    going : (after : List ℕ) (rest : Set) (e : ℕ) → G.to j < 256 → after ≡ set incoming (G.to j) (get_or incoming (G.to j) 0 - 1)
        → ((i : ℕ) → rest i ≡ not (eqb i (G.to j) && eqb (get_or incoming (G.to j) 0 - 1) 0) && blocked i) → e ≡ get_or next j 0 → (Removing G k h before after rest e) × (e < d)
    unfolding only
    going after rest e l q s n = (
      record {
        long = ap length q ∙ length-set incoming (G.to j) _ ∙ r.long;
        within = omega (arith, r.within, is, last_most G k j);
        last = rw is (last_again G k j);
        fewer = λ i u. rw (q, is, comes-last G k j i) (at i u (same? i (G.to j)));
        shown = shows_next incoming after blocked rest (G.to j) (omega (arith, r.long)) (counted l) q s r.shown;
      },
      omega (arith, is, last_most G k j, at_j),
    )
      where
        is : e ≡ last_from G k j
        is = n ∙ p.follows j (omega (arith, r.within)) here.0 ∙ rw here.1

        at : (i : ℕ) → i < 256 → {b : Bool} → Same i (G.to j) b → get_or (set incoming (G.to j) (get_or incoming (G.to j) 0 - 1)) i 0 + comes G (only k) h i ≡ get_or before i 0 + comes G (only k) j i
        at i u (same z) =
            let f = r.fewer i u in
            let o = comes-one G (only k) j i here.0 (rw here.1 (eqb_same k)) (sym z) in
            let g : get_or (set incoming (G.to j) (get_or incoming (G.to j) 0 - 1)) i 0 ≡ get_or incoming i 0 - 1 = rw z (get_or-set_same incoming (G.to j) (get_or incoming (G.to j) 0 - 1) 0 (omega (arith, r.long))) in
            let w : 0 < get_or incoming i 0 = rw z (counted l) in
            omega arith
        at i u (other z) = rw (get_or-set_other incoming (G.to j) i (get_or incoming (G.to j) 0 - 1) 0 z) (r.fewer i u ∙ ap (λ x. get_or before i 0 + x) (comes_other G (only k) j i (λ y. z (sym y))))

    module _ (t : ℕ) (to-t : t ≡ G.to j) (l : t < 256) where
      -- so the count at its label is above 0
      pub removing_pos : 0 < get_or incoming t 0
      removing_pos = rw to-t (counted (rw to-t at l))

      -- and the list goes on at the arrow before it, nearer to 0
      pub removing_next : (after : List ℕ) (rest : Set) (e : ℕ) → after ≡ set incoming t (get_or incoming t 0 - 1) → ((i : ℕ) → rest i ≡ not (eqb i t && eqb (get_or incoming t 0 - 1) 0) && blocked i)
          → e ≡ get_or next j 0 → (Removing G k h before after rest e) × (e < d)
      removing_next after rest e q s n = going after rest e (rw to-t at l) (rw to-t at q) (rw to-t at s) n
