-- Arrows linked one by one in lists, and counted. Assumes nothing.
use mathlib.Core.Path.{◌≡◌, refl, sym, ap, fun_ext, ◌∙◌}
use mathlib.Core.Bool.{Bool, true, false, cond, not, ◌&&◌, ◌||◌, or-false, false≢true, or-true}
use Prim.Native.Nat.{ℕ, suc, ◌+◌, ◌≤◌, ◌<◌}
use native.Mathlib.Nat.{not-suc-le-zero}
use native.Mathlib.Numerals.{add-one}
use native.Mathlib.Omega.{arith}
use lib.Dec.{eqb}
use lib.ListN.{length, get_or, set, replicate, length-set, length-replicate, get_or-replicate, get_or-eq_default}
use lib.Seq.{get_or-set_same, get_or-set_other}
use borrow.Author.Tests.{ne_eqb}
use Rattle.rules.specs.Base.{any_below, count_below}
use Rattle.rules.specs.Sets.{everything, only}
use Rattle.rules.proofs.BaseLaws.{count-le, Below, under, over, below, eqb_same, Same, same, other, same?}
use Rattle.cycles.specs.declared.Arrows.{Arrows}
use Rattle.cycles.specs.Graph.{Graph, comes, leads, last_from}
use Rattle.cycles.specs.Links.{Lists, Blank, lists_of, with_arrow, with_tie, Linked}
use Rattle.cycles.proofs.CountLaws.{comes_none, comes_other, comes-one, last_none, last_other, last_one}

-- empty lists hold no arrow
pub linked_none : (G : Graph) (s : Lists) → s.heads ≡ replicate 256 0 → s.incoming ≡ replicate 256 0 → ((k : ℕ) → s.leaders k ≡ false) → ((k : ℕ) → s.blocked k ≡ false) → Linked G 0 s
unfolding last_from comes count_below leads any_below
linked_none G s f w l h = record {
  heads = λ k q. rw f (get_or-replicate 256 k 0 0 q);
  next = λ j q. absurd (not-suc-le-zero q);
  incoming = λ k q. rw w (get_or-replicate 256 k 0 0 q);
  leaders = l;
  blocked = h;
}

module _ (G : Graph) (m : ℕ) (s : Lists) (p : Linked G m s) where
  -- a place without an arrow
  linked_skip : G.arrow m ≡ false → Linked G (suc m) s
  unfolding leads any_below
  linked_skip e = record {
    heads = λ k q. p.heads k q ∙ sym (last_none G m k e);
    next = λ j q a. p.next j (before j q a) a;
    incoming = λ k q. p.incoming k q ∙ sym (comes_none G everything m k e);
    leaders = λ k. p.leaders k ∙ sym (rw e (or-false (leads G m k)));
    blocked = λ k. rw (comes_none G everything m k e) (p.blocked k);
  }
    where
      before : (j : ℕ) → j < suc m → G.arrow j ≡ true → j < m
      before j q a = go (same? j m)
        where
          go : {b : Bool} → Same j m b → j < m
          go (same u) = absurd (false≢true (sym e ∙ rw u at a))
          go (other u) = omega arith

  module _ (lf : length s.heads ≡ 256) (ln : m < length s.next) (lw : length s.incoming ≡ 256) (sf : G.from m < 256) (st : G.to m < 256) (e : G.arrow m ≡ true) where
    -- a place with one
    linked_keep : Linked G (suc m) (with_arrow m (G.from m) (G.to m) s)
    unfolding with_arrow leads any_below only everything
    linked_keep = record {
      heads = λ k q. heads k q (same? k (G.from m));
      next = λ j q a. next j q a (same? j m);
      incoming = λ k q. incoming k q (same? k (G.to m));
      leaders = λ k. leaders k (same? k (G.from m));
      blocked = λ k. blocked k (same? k (G.to m));
    }
      where
        heads : (k : ℕ) → k < 256 → {b : Bool} → Same k (G.from m) b → get_or (set s.heads (G.from m) (m + 1)) k 0 ≡ last_from G k (suc m)
        heads k q (same u) = rw u (get_or-set_same s.heads (G.from m) (m + 1) 0 (omega arith) ∙ add-one m ∙ sym (last_one G m (G.from m) e refl))
        heads k q (other u) = get_or-set_other s.heads (G.from m) k (m + 1) 0 u ∙ p.heads k q ∙ sym (last_other G m k (λ z. u (sym z)))

        next : (j : ℕ) → j < suc m → G.arrow j ≡ true → {b : Bool} → Same j m b → get_or (set s.next m (get_or s.heads (G.from m) 0)) j 0 ≡ last_from G (G.from j) j
        next j q a (same u) = rw u (get_or-set_same s.next m (get_or s.heads (G.from m) 0) 0 ln ∙ p.heads (G.from m) sf)
        next j q a (other u) = get_or-set_other s.next m j (get_or s.heads (G.from m) 0) 0 u ∙ p.next j (omega arith) a

        incoming : (k : ℕ) → k < 256 → {b : Bool} → Same k (G.to m) b → get_or (set s.incoming (G.to m) (get_or s.incoming (G.to m) 0 + 1)) k 0 ≡ comes G everything (suc m) k
        incoming k q (same u) = rw u (get_or-set_same s.incoming (G.to m) (get_or s.incoming (G.to m) 0 + 1) 0 (omega arith) ∙ add-one _ ∙ ap suc (p.incoming (G.to m) st) ∙ sym (comes-one G everything m (G.to m) e refl refl))
        incoming k q (other u) = get_or-set_other s.incoming (G.to m) k (get_or s.incoming (G.to m) 0 + 1) 0 u ∙ p.incoming k q ∙ sym (comes_other G everything m k (λ z. u (sym z)))

        leaders : (k : ℕ) → {b : Bool} → Same k (G.from m) b → b || s.leaders k ≡ leads G m k || (G.arrow m && eqb (G.from m) k)
        leaders k (same u) = sym (rw (e, u, eqb_same (G.from m)) (or-true (leads G m (G.from m))))
        leaders k (other u) = p.leaders k ∙ sym (rw (ne_eqb (G.from m) k (λ z. u (sym z)), e) (or-false (leads G m k)))

        blocked : (k : ℕ) → {b : Bool} → Same k (G.to m) b → b || s.blocked k ≡ not (eqb (comes G everything (suc m) k) 0)
        blocked k (same u) = sym (rw (comes-one G everything m k e refl (sym u), ne_eqb (suc (comes G everything m k)) 0 (λ z. omega arith)))
        blocked k (other u) = rw (comes_other G everything m k (λ z. u (sym z))) (p.blocked k)

  -- one place more
  pub linked_next : (r : Lists) → length s.heads ≡ 256 → m < length s.next → length s.incoming ≡ 256 → G.from m < 256 → G.to m < 256
      → r ≡ with_tie (G.arrow m) m (G.from m) (G.to m) s → Linked G (m + 1) r
  unfolding with_tie
  linked_next r lf ln lw sf st q = rw (add-one m) (go (G.arrow m) refl q)
    where
      go : (b : Bool) → G.arrow m ≡ b → r ≡ cond b (with_arrow m (G.from m) (G.to m) s) s → Linked G (suc m) r
      go true e u = rw u (linked_keep lf ln lw sf st e)
      go false e u = rw u (linked_skip e)

-- lists and sets that are each as `with_arrow` says
pub with_arrow_lem : (j from to : ℕ) (s r : Lists) → r.heads ≡ set s.heads from (j + 1) → r.next ≡ set s.next j (get_or s.heads from 0) → r.incoming ≡ set s.incoming to (get_or s.incoming to 0 + 1)
    → ((k : ℕ) → r.leaders k ≡ eqb k from || s.leaders k) → ((k : ℕ) → r.blocked k ≡ eqb k to || s.blocked k) → r ≡ with_arrow j from to s
unfolding with_arrow
with_arrow_lem j from to s r f n w l h = λ i. record { heads = f i; next = n i; incoming = w i; leaders = fun_ext l i; blocked = fun_ext h i }

-- a tie that is an arrow, by a test b
pub tie_linked : (b a : Bool) (j from to : ℕ) (s r : Lists) → b ≡ true → b ≡ a → r ≡ with_arrow j from to s → r ≡ with_tie a j from to s
unfolding with_tie
tie_linked b a j from to s r q p h = rw (sym p ∙ q) h

-- and one that is none
pub tie_passed : (b a : Bool) (j from to : ℕ) (s : Lists) → b ≡ false → b ≡ a → s ≡ with_tie a j from to s
unfolding with_tie
tie_passed b a j from to s q p = rw (sym p ∙ q)

-- no count is above the number of places
pub linked_few : (G : Graph) (m : ℕ) (s : Lists) → Linked G m s → length s.incoming ≡ 256 → (k : ℕ) → get_or s.incoming k 0 ≤ m
unfolding comes
linked_few G m s p l k = go (below k 256)
  where
    go : {b : Bool} → Below k 256 b → get_or s.incoming k 0 ≤ m
    go (under h) = rw (p.incoming k h) (count-le m _)
    go (over h) = rw (get_or-eq_default s.incoming 0 {n = k} (omega arith)) (omega arith)

-- the arrays are as long as their types say
pub record Room (a : Arrows) : Type 0 where
  -- a head for each label
  pub by_label : length a.heads ≡ 256
  -- a place for each tie
  pub by_place : length a.next ≡ 512
  -- a count for each label
  pub counts : length a.incoming ≡ 256

-- as those of blank ones are
pub blank_room : (a : Arrows) → Blank a → length a.next ≡ 512 → Room a
blank_room a b h = record { by_label = ap length b.no_heads ∙ length-replicate {A = ℕ} 256 0; by_place = h; counts = ap length b.no_counts ∙ length-replicate {A = ℕ} 256 0 }

-- and stay so
pub room_kept : (a : Bool) (j from to : ℕ) (s r : Arrows) → lists_of r ≡ with_tie a j from to (lists_of s) → Room s → Room r
unfolding with_tie with_arrow
room_kept true j from to s r e p = record {
  by_label = ap (λ (l : Lists). length l.heads) e ∙ length-set s.heads from _ ∙ p.by_label;
  by_place = ap (λ (l : Lists). length l.next) e ∙ length-set s.next j _ ∙ p.by_place;
  counts = ap (λ (l : Lists). length l.incoming) e ∙ length-set s.incoming to _ ∙ p.counts;
}
room_kept false j from to s r e p = record {
  by_label = ap (λ (l : Lists). length l.heads) e ∙ p.by_label;
  by_place = ap (λ (l : Lists). length l.next) e ∙ p.by_place;
  counts = ap (λ (l : Lists). length l.incoming) e ∙ p.counts;
}
