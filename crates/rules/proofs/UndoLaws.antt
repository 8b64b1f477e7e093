-- What a withdrawal makes of the values and leaves of the log: record by record, and by places. Assumes nothing.
use mathlib.Core.Path.{◌≡◌, refl, sym, ◌∙◌, ap, ap₂, fun_ext}
use mathlib.Core.Bool.{Bool, true, false, not, cond, ◌&&◌, ◌||◌, and-true, and-false, or-false}
use mathlib.Core.List.{List, [], ◌∷◌, ◌++◌, map, map-append}
use Prim.Native.Nat.{ℕ, zero, suc, ◌≤◌, ◌<◌}
use native.Mathlib.Omega.{arith}
use lib.Dec.{eqb}
use lib.ListN.{length, take, get_or}
use lib.Seq.{take-suc, take-length}
use Rattle.rules.specs.Base.{all, any, keep, table}
use Rattle.rules.specs.Sets.{Set}
use Rattle.rules.specs.Window.{LogRecord}
use Rattle.rules.specs.Effects.{is_unowned, unowned, owned_on, undo, is_elsewhere, records_left}
use Rattle.rules.proofs.BaseLaws.{and_both, and_left, and_right, eqb_same, Same, same, other, same?}
use Rattle.rules.proofs.ListLaws.{all_keep, keep_join, keep_all, any_join, table_more, length-keep}

module _ (s : Set) where
  -- VALUES: by a second part of the log first, then by the first
  pub undo_join : (l m : List LogRecord) (v : ℕ → ℕ) (e : ℕ) → undo s (l ++ m) v e ≡ undo s l (undo s m v) e
  unfolding undo
  undo_join [] m v e = refl
  undo_join (r ∷ l) m v e = ap (λ x. cond (owned_on s e r) r.before x) (undo_join l m v e)

  -- an entry without a record of the set keeps its value, and for any other what it had plays no part
  pub undo_by : (l : List LogRecord) (u v : ℕ → ℕ) (e : ℕ) → undo s l v e ≡ cond (any (owned_on s e) l) (undo s l u e) (v e)
  unfolding undo any
  undo_by [] u v e = refl
  undo_by (r ∷ l) u v e = go (owned_on s e r) (undo_by l u v e)
    where
      go : (b : Bool) → undo s l v e ≡ cond (any (owned_on s e) l) (undo s l u e) (v e) → cond b r.before (undo s l v e) ≡ cond (b || any (owned_on s e) l) (cond b r.before (undo s l u e)) (v e)
      go true h = refl
      go false h = h

  -- with one record more: nothing where its entry is undone already
  pub undo-more : (l : List LogRecord) (r : LogRecord) (v : ℕ → ℕ) → undo s (l ++ (r ∷ [])) v ≡ cond (any (owned_on s r.entry) l) (undo s l v) (undo s (r ∷ []) (undo s l v))
  unfolding undo owned_on
  undo-more l r v = fun_ext (λ e. undo_join l (r ∷ []) v e ∙ undo_by l v (undo s (r ∷ []) v) e ∙ go (any (owned_on s r.entry) l) refl e (same? e r.entry) ∙ placed (any (owned_on s r.entry) l) e)
    where
      placed : (b : Bool) (e : ℕ) → cond b (undo s l v e) (undo s (r ∷ []) (undo s l v) e) ≡ cond b (undo s l v) (undo s (r ∷ []) (undo s l v)) e
      placed true e = refl
      placed false e = refl

      go : (b : Bool) → any (owned_on s r.entry) l ≡ b → (e : ℕ) {d : Bool} → Same e r.entry d
          → cond (any (owned_on s e) l) (undo s l v e) (cond (s r.owner && d) r.before (v e)) ≡ cond b (undo s l v e) (cond (s r.owner && d) r.before (undo s l v e))
      go true p e (same q) = rw (ap (λ k. any (owned_on s k) l) q ∙ p)
      go true p e (other n) = rw (and-false (s r.owner)) (sym (undo_by l v v e))
      go false p e (same q) = rw (ap (λ k. any (owned_on s k) l) q ∙ p) (ap (cond (s r.owner && true) r.before) (sym (undo_by l v v e ∙ rw (ap (λ k. any (owned_on s k) l) q ∙ p))))
      go false p e (other n) = rw (and-false (s r.owner)) (sym (undo_by l v v e))

  -- LOG: one record more stays unless it is the set's or comes after one of the set on its entry
  pub left_more : (l : List LogRecord) (r : LogRecord) → records_left s (l ++ (r ∷ [])) ≡ records_left s l ++ cond (any (owned_on s r.entry) l || s r.owner) [] (r ∷ [])
  unfolding records_left any keep owned_on is_elsewhere
  left_more [] r = refl
  left_more (q ∷ l) r = go (s q.owner) (left_more l r)
    where
      rest : List LogRecord
      rest = cond (any (owned_on s r.entry) l || s r.owner) [] (r ∷ [])

      one : (a b c : Bool) → eqb r.entry q.entry ≡ a → keep (is_elsewhere q.entry) (cond (b || c) [] (r ∷ [])) ≡ cond (a || b || c) [] (r ∷ [])
      one true true c e = refl
      one true false true e = refl
      one true false false e = rw e
      one false true c e = refl
      one false false true e = refl
      one false false false e = rw e

      go : (b : Bool) → records_left s (l ++ (r ∷ [])) ≡ records_left s l ++ rest
          → cond b (keep (is_elsewhere q.entry) (records_left s (l ++ (r ∷ [])))) (q ∷ records_left s (l ++ (r ∷ [])))
          ≡ cond b (keep (is_elsewhere q.entry) (records_left s l)) (q ∷ records_left s l) ++ cond (b && eqb r.entry q.entry || any (owned_on s r.entry) l || s r.owner) [] (r ∷ [])
      go true h = ap (keep (is_elsewhere q.entry)) h ∙ keep_join (is_elsewhere q.entry) (records_left s l) rest
          ∙ ap (λ (t : List LogRecord). keep (is_elsewhere q.entry) (records_left s l) ++ t) (one (eqb r.entry q.entry) (any (owned_on s r.entry) l) (s r.owner) refl)
      go false h = ap (λ (t : List LogRecord). q ∷ t) h

  -- BY PLACES: a record stays where no record of the set stands on its entry, at its place or before
  module _ (none : LogRecord) (l : List LogRecord) where
    abbrev record_at : ℕ → LogRecord
    record_at i = get_or l i none

    unfoldable pub stays_at : ℕ → Bool
    stays_at i = not (any (owned_on s (record_at i).entry) (take (suc i) l))

    -- the record of one place
    struck_at : (i : ℕ) → i < length l → any (owned_on s (record_at i).entry) (take (suc i) l) ≡ any (owned_on s (record_at i).entry) (take i l) || s (record_at i).owner
    unfolding any owned_on
    struck_at i h = ap (any (owned_on s (record_at i).entry)) (take-suc l i none h) ∙ any_join (owned_on s (record_at i).entry) (take i l) (record_at i ∷ [])
        ∙ ap (λ b. any (owned_on s (record_at i).entry) (take i l) || b) (rw (eqb_same (record_at i).entry, or-false (s (record_at i).owner && true), and-true (s (record_at i).owner)))

    place : (i : ℕ) → i < length l → cond (any (owned_on s (record_at i).entry) (take i l) || s (record_at i).owner) [] (record_at i ∷ []) ≡ map record_at (keep stays_at (i ∷ []))
    unfolding stays_at keep
    place i h = go (any (owned_on s (record_at i).entry) (take i l) || s (record_at i).owner) (struck_at i h)
      where
        go : (b : Bool) → any (owned_on s (record_at i).entry) (take (suc i) l) ≡ b → cond b [] (record_at i ∷ []) ≡ map record_at (cond (not (any (owned_on s (record_at i).entry) (take (suc i) l))) (i ∷ []) [])
        go true e = rw e
        go false e = rw e

    left_first : (n : ℕ) → n ≤ length l → records_left s (take n l) ≡ map record_at (keep stays_at (table n 0 (λ i. i)))
    unfolding records_left keep table
    left_first zero h = refl
    left_first (suc n) h = ap (records_left s) (take-suc l n none h) ∙ left_more (take n l) (record_at n) ∙ ap₂ ◌++◌ (left_first n (omega arith)) (place n h)
        ∙ sym (map-append record_at (keep stays_at (table n 0 (λ i. i))) (keep stays_at (n ∷ [])))
        ∙ ap (map record_at) (sym (keep_join stays_at (table n 0 (λ i. i)) (n ∷ [])) ∙ ap (keep stays_at) (sym (table_more n (λ i. i))))

    pub left_places : records_left s l ≡ map record_at (keep stays_at (table (length l) 0 (λ i. i)))
    left_places = ap (records_left s) (sym (take-length l)) ∙ left_first (length l) (omega arith)

  -- what holds of all records holds of those left
  pub left_all : (p : LogRecord → Bool) (l : List LogRecord) → all p l ≡ true → all p (records_left s l) ≡ true
  unfolding all records_left
  left_all p [] h = h
  left_all p (r ∷ l) h = go (s r.owner) (left_all p l (and_right (p r) (all p l) h))
    where
      go : (b : Bool) → all p (records_left s l) ≡ true → all p (cond b (keep (is_elsewhere r.entry) (records_left s l)) (r ∷ records_left s l)) ≡ true
      go true g = all_keep p (is_elsewhere r.entry) p (λ x y z. y) (records_left s l) g
      go false g = and_both (p r) (all p (records_left s l)) (and_left (p r) (all p l) h) g

  pub left_few : (l : List LogRecord) → length (records_left s l) ≤ length l
  unfolding records_left
  left_few [] = omega arith
  left_few (r ∷ l) = go (s r.owner) (left_few l)
    where
      go : (b : Bool) → length (records_left s l) ≤ length l → length (cond b (keep (is_elsewhere r.entry) (records_left s l)) (r ∷ records_left s l)) ≤ suc (length l)
      go true g = omega (arith, length-keep (is_elsewhere r.entry) (records_left s l))
      go false g = omega arith

  -- none of them is the set's
  left_owners : (l : List LogRecord) → all (is_unowned s) (records_left s l) ≡ true
  unfolding all records_left is_unowned
  left_owners [] = refl
  left_owners (r ∷ l) = go (s r.owner) refl (left_owners l)
    where
      go : (b : Bool) → s r.owner ≡ b → all (is_unowned s) (records_left s l) ≡ true → all (is_unowned s) (cond b (keep (is_elsewhere r.entry) (records_left s l)) (r ∷ records_left s l)) ≡ true
      go true e g = all_keep (is_unowned s) (is_elsewhere r.entry) (is_unowned s) (λ x y z. y) (records_left s l) g
      go false e g = and_both (is_unowned s r) (all (is_unowned s) (records_left s l)) (ap not e) g

  pub left_unowned : (l : List LogRecord) → unowned s (records_left s l) ≡ records_left s l
  unfolding unowned
  left_unowned l = keep_all (is_unowned s) (is_unowned s) (λ r h. h) (records_left s l) (left_owners l)
