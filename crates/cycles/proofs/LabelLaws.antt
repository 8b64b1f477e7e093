-- Labels of groups: after all ties two changes have one label just where group ties lead from one to the other. Assumes nothing.
use mathlib.Core.Path.{◌≡◌, refl, sym, ap, fun_ext, ◌∙◌}
use mathlib.Core.Bool.{Bool, true, false, cond, false≢true}
use mathlib.Core.List.{List, [], ◌∷◌, map, map-id}
use Prim.Native.Nat.{ℕ, zero, suc, ◌+◌, ◌<◌}
use native.Mathlib.Nat.{not-suc-le-zero}
use native.Mathlib.Numerals.{add-one}
use native.Mathlib.Omega.{arith}
use lib.Dec.{eqb}
use lib.ListN.{length, get_or, length-map, get_or-eq_default}
use borrow.Author.Tests.{ne_eqb}
use Rattle.std.proofs.lemmas.List.{get_or-map}
use Rattle.rules.specs.Base.{table}
use Rattle.rules.specs.Sets.{Rel}
use Rattle.rules.specs.Window.{TieRecord}
use Rattle.rules.specs.Ties.{is_group}
use Rattle.rules.proofs.BaseLaws.{cond_same, Same, same, other, same?, eqb_same, Below, under, over, below}
use Rattle.rules.proofs.PathLaws.{Way, stay, on, way_join, way_back}
use Rattle.rules.proofs.TieLaws.{group_is}
use Rattle.layout.specs.Records.{tie_of}
use Rattle.layout.proofs.SectionLaws.{Bytes, length-table, get_or_table0}
use Rattle.cycles.specs.Graph.{own_labels, instead, joined, labelled}

-- a label put in its own place
instead_self : (a x : ℕ) → instead a a x ≡ x
unfolding instead
instead_self a x = go (same? x a)
  where
    go : {b : Bool} → Same x a b → cond b a x ≡ x
    go (same e) = sym e
    go (other n) = refl

-- what was new stays
instead_new : (a b : ℕ) → instead b a a ≡ a
unfolding instead
instead_new a b = cond_same (eqb a b) a

-- what was old is new
instead_old : (a b : ℕ) → instead b a b ≡ a
unfolding instead
instead_old a b = rw (eqb_same b)

-- of a whole list
map_self : (a : ℕ) (l : List ℕ) → map (instead a a) l ≡ l
map_self a l = ap (λ (f : ℕ → ℕ). map f l) (fun_ext (instead_self a)) ∙ map-id l

-- ONE TIE
module _ (kind leader follower : ℕ) (l : List ℕ) where
  -- no group tie
  pub joined_none : (kind ≡ 3 → ⊥) → l ≡ joined (tie_of kind leader follower) l
  unfolding joined is_group
  joined_none h = rw (ne_eqb kind 3 h)

  -- ends that have one label
  pub joined_same : kind ≡ 3 → get_or l leader 0 ≡ get_or l follower 0 → l ≡ joined (tie_of kind leader follower) l
  unfolding joined
  joined_same h e = rw (group_is kind h, e) (sym (map_self (get_or l follower 0) l))

  -- a new label for the follower's group
  pub joined_new : (r : List ℕ) → kind ≡ 3 → r ≡ map (instead (get_or l follower 0) (get_or l leader 0)) l → r ≡ joined (tie_of kind leader follower) l
  unfolding joined
  joined_new r h e = rw (group_is kind h) e

-- as many labels
length-joined : (t : TieRecord) (l : List ℕ) → length (joined t l) ≡ length l
unfolding joined
length-joined t l = go (is_group t.kind)
  where
    go : (b : Bool) → length (cond b (map (instead (get_or l t.follower 0) (get_or l t.leader 0)) l) l) ≡ length l
    go true = length-map l _
    go false = refl

-- ALL TIES
-- 256 labels
length_own : length own_labels ≡ 256
unfolding own_labels
length_own = length-table 256 0 (λ k. k)

-- 256 after any number of ties
pub length-labelled : (t : ℕ → TieRecord) (j : ℕ) → length (labelled t j own_labels) ≡ 256
unfolding labelled
length-labelled t zero = length_own
length-labelled t (suc j) = length-joined (t j) (labelled t j own_labels) ∙ length-labelled t j

-- one label at the ends of the first j group ties, and elsewhere only where R leads
pub record Labels (R : Rel) (t : ℕ → TieRecord) (j : ℕ) (l : List ℕ) : Type 0 where
  pub agree : (i : ℕ) → i < j → is_group (t i).kind ≡ true → get_or l (t i).leader 0 ≡ get_or l (t i).follower 0
  pub reach : (a b : ℕ) → a < 256 → b < 256 → get_or l a 0 ≡ get_or l b 0 → Way R a b

module _ (R : Rel) (both : (a b : ℕ) → R a b ≡ true → R b a ≡ true) (t : ℕ → TieRecord) (leaders : (j : ℕ) → (t j).leader < 256) (followers : (j : ℕ) → (t j).follower < 256) where
  -- before the first tie
  labels_none : Labels R t 0 own_labels
  unfolding own_labels
  labels_none = record {
    agree = λ i h. absurd (not-suc-le-zero h);
    reach = λ a b p q e. rw (sym (get_or_table0 256 (λ k. k) a 0 p) ∙ e ∙ get_or_table0 256 (λ k. k) b 0 q) stay;
  }

  module _ (j : ℕ) (l : List ℕ) (long : length l ≡ 256) (m : Labels R t j l) where
    -- the labels of the tie's leader and follower
    abbrev A : ℕ
    A = get_or l (t j).leader 0

    abbrev B : ℕ
    B = get_or l (t j).follower 0

    -- the new label of k
    at : (k : ℕ) → k < 256 → get_or (map (instead B A) l) k 0 ≡ instead B A (get_or l k 0)
    at k h = get_or-map (instead B A) l k 0 0 (omega arith)

    -- the new labels agree at the ends of the first ties and of this one
    new_agree : (i : ℕ) → i < suc j → is_group (t i).kind ≡ true → instead B A (get_or l (t i).leader 0) ≡ instead B A (get_or l (t i).follower 0)
    new_agree i h e = go (same? i j)
      where
        go : {b : Bool} → Same i j b → instead B A (get_or l (t i).leader 0) ≡ instead B A (get_or l (t i).follower 0)
        go (same q) = rw q (instead_new A B ∙ sym (instead_old A B))
        go (other q) = ap (instead B A) (m.agree i (omega arith) e)

    -- and where they agree R leads
    new_reach : R (t j).leader (t j).follower ≡ true → (a b : ℕ) → a < 256 → b < 256 → instead B A (get_or l a 0) ≡ instead B A (get_or l b 0) → Way R a b
    unfolding instead
    new_reach g a b p q = go (same? (get_or l a 0) B) (same? (get_or l b 0) B)
      where
        tie : Way R (t j).follower (t j).leader
        tie = on stay (both _ _ g)

        go : {x y : Bool} → Same (get_or l a 0) B x → Same (get_or l b 0) B y → cond x A (get_or l a 0) ≡ cond y A (get_or l b 0) → Way R a b
        go (same u) (same v) e = m.reach a b p q (u ∙ sym v)
        go (same u) (other v) e = way_join (way_join (m.reach a (t j).follower p (followers j) u) tie) (m.reach (t j).leader b (leaders j) q e)
        go (other u) (same v) e = way_back both (way_join (way_join (m.reach b (t j).follower q (followers j) v) tie) (m.reach (t j).leader a (leaders j) p (sym e)))
        go (other u) (other v) e = m.reach a b p q e

    -- one tie more
    labels_next : (is_group (t j).kind ≡ true → R (t j).leader (t j).follower ≡ true) → Labels R t (suc j) (joined (t j) l)
    unfolding joined
    labels_next g = go (is_group (t j).kind) refl
      where
        go : (b : Bool) → is_group (t j).kind ≡ b → Labels R t (suc j) (cond b (map (instead B A) l) l)
        go true e = record {
          agree = λ i h q. at (t i).leader (leaders i) ∙ new_agree i h q ∙ sym (at (t i).follower (followers i));
          reach = λ a b p q u. new_reach (g e) a b p q (sym (at a p) ∙ u ∙ at b q);
        }
        go false e = record { agree = λ i h q. old i h q (same? i j); reach = m.reach }
          where
            old : (i : ℕ) → i < suc j → is_group (t i).kind ≡ true → {b : Bool} → Same i j b → get_or l (t i).leader 0 ≡ get_or l (t i).follower 0
            old i h q (same u) = absurd (false≢true (sym e ∙ rw u at q))
            old i h q (other u) = m.agree i (omega arith) q

  -- after all ties of which each group tie is one of R
  pub labels_all : (n : ℕ) → ((j : ℕ) → j < n → is_group (t j).kind ≡ true → R (t j).leader (t j).follower ≡ true) → Labels R t n (labelled t n own_labels)
  unfolding labelled
  labels_all zero g = labels_none
  labels_all (suc n) g = labels_next n (labelled t n own_labels) (length-labelled t n) (labels_all n (λ j h. g j (omega arith))) (g n (omega arith))

-- the labels after one tie more
pub labelled-next : (t : ℕ → TieRecord) (j : ℕ) (l r : List ℕ) → l ≡ labelled t j own_labels → r ≡ joined (t j) l → r ≡ labelled t (j + 1) own_labels
unfolding labelled
labelled-next t j l r e q = rw (q, e, add-one j)

-- labels stay below 256
small_instead : (a b x : ℕ) → a < 256 → x < 256 → instead b a x < 256
unfolding instead
small_instead a b x p q = go (eqb x b)
  where
    go : (y : Bool) → cond y a x < 256
    go true = p
    go false = q

-- in a whole list
small_map : (a b : ℕ) (l : List ℕ) → a < 256 → Bytes l → Bytes (map (instead b a) l)
small_map a b [] p h k = omega arith
small_map a b (x ∷ l) p h zero = small_instead a b x p (h 0)
small_map a b (x ∷ l) p h (suc k) = small_map a b l p (λ i. h (suc i)) k

-- at first
small_own : (k : ℕ) → get_or own_labels k 0 < 256
unfolding own_labels
small_own k = go (below k 256)
  where
    go : {b : Bool} → Below k 256 b → get_or (table 256 0 (λ i. i)) k 0 < 256
    go (under h) = rw (get_or_table0 256 (λ i. i) k 0 h) h
    go (over h) = rw (get_or-eq_default (table 256 0 (λ i. i)) 0 {n = k} (omega (arith, length-table 256 0 (λ (i : ℕ). i)))) (omega arith)

-- after any number of ties
pub small_labels : (t : ℕ → TieRecord) (j k : ℕ) → get_or (labelled t j own_labels) k 0 < 256
unfolding labelled joined
small_labels t zero k = small_own k
small_labels t (suc j) k = go (is_group (t j).kind) (small_labels t j)
  where
    go : (b : Bool) → ((i : ℕ) → get_or (labelled t j own_labels) i 0 < 256) → get_or (cond b (map (instead (get_or (labelled t j own_labels) (t j).follower 0) (get_or (labelled t j own_labels) (t j).leader 0)) (labelled t j own_labels)) (labelled t j own_labels)) k 0 < 256
    go true h = small_map _ _ (labelled t j own_labels) (h (t j).leader) h k
    go false h = h k
