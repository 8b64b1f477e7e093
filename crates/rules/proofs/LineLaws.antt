-- Records of lines: who enters and who leaves, and that no more stand in line than there are changes. Assumes nothing.
use mathlib.Core.Path.{◌≡◌, refl, sym, ◌∙◌, ap}
use mathlib.Core.Logic.{◌≢◌}
use mathlib.Core.Bool.{Bool, true, false, not, cond, ◌&&◌}
use mathlib.Core.List.{List, [], ◌∷◌, Memᴰ}
use Prim.Native.Nat.{ℕ, zero, suc, ◌≤◌, ◌<◌}
use native.Mathlib.Nat.{not-suc-le-zero, le_of_suc-le-suc}
use native.Mathlib.Omega.{arith}
use lib.Dec.{ltb, eqb}
use lib.ListN.{length, get_or}
use borrow.Author.Tests.{eqb-true, eqb-false, eq-eqb, ne_eqb, ltb-true, not-true}
use Rattle.rules.specs.Base.{all, any, keep, distinct, outside, count_below}
use Rattle.rules.specs.Sets.{Set, everything}
use Rattle.rules.specs.Window.{LineRecord}
use Rattle.rules.specs.Line.{enter_line}
use Rattle.rules.specs.Sound.{waiter_sound}
use Rattle.rules.proofs.BaseLaws.{and_both, and_left, and_right, or_left, or_right, never, no_true, eqb_same, count-le, Same, same, other, same?}
use Rattle.rules.proofs.BoundLaws.{count-more}
use Rattle.rules.proofs.ListLaws.{all_member, all_keep, all_weaken, all_at, all_places, find}

-- what a sound record of a line says
pub waiter_parts : (m : ℕ) (runs : Set) (r : LineRecord) → waiter_sound m runs r ≡ true → (runs r.change ≡ true) × (ltb r.entry m ≡ true) × (not (outside 1 2 r.mode) ≡ true)
unfolding waiter_sound
waiter_parts m runs r h = let u = and_left (runs r.change && ltb r.entry m) _ h in
    (and_left (runs r.change) _ u, and_right (runs r.change) _ u, and_right (runs r.change && ltb r.entry m) _ h)

-- a record that is sound where some run is sound where others run, if its change is one of them; so where more run
pub waiter_on : (m : ℕ) (f g : Set) (r : LineRecord) → (f r.change ≡ true → g r.change ≡ true) → waiter_sound m f r ≡ true → waiter_sound m g r ≡ true
unfolding waiter_sound
waiter_on m f g r on h = let q = waiter_parts m f r h in rw (on q.0, q.1, q.2)

pub waiter_more : (m : ℕ) (f g : Set) → ((c : ℕ) → f c ≡ true → g c ≡ true) → (r : LineRecord) → waiter_sound m f r ≡ true → waiter_sound m g r ≡ true
waiter_more m f g more r = waiter_on m f g r (more r.change)

-- of records of which no number stands twice
module _ {A : Type 0} (number : A → ℕ) where
  pub distinct-keep : (q : A → Bool) (l : List A) → distinct number l ≡ true → distinct number (keep q l) ≡ true
  unfolding distinct keep
  distinct-keep q [] e = refl
  distinct-keep q (x ∷ l) e = go (q x) (distinct-keep q l (and_right (all (λ y. not (eqb (number y) (number x))) l) (distinct number l) e))
    where
      go : (b : Bool) → distinct number (keep q l) ≡ true → distinct number (cond b (x ∷ keep q l) (keep q l)) ≡ true
      go true ih = and_both (all (λ y. not (eqb (number y) (number x))) (keep q l)) (distinct number (keep q l))
          (all_keep (λ y. not (eqb (number y) (number x))) q (λ y. not (eqb (number y) (number x))) (λ y a b. a) l (and_left (all (λ y. not (eqb (number y) (number x))) l) (distinct number l) e)) ih
      go false ih = ih

  -- by places: each has another number than those before it
  pub distinct_places : (d : A) (l : List A) → ((i j : ℕ) → i < j → j < length l → number (get_or l j d) ≢ number (get_or l i d)) → distinct number l ≡ true
  unfolding distinct
  distinct_places d [] f = refl
  distinct_places d (x ∷ l) f = and_both (all (λ y. not (eqb (number y) (number x))) l) (distinct number l)
      (all_places (λ y. not (eqb (number y) (number x))) d l (λ j h. ap not (ne_eqb _ (number x) (f 0 (suc j) (omega arith) (omega arith)))))
      (distinct_places d l (λ i j h t. f (suc i) (suc j) (omega arith) (omega arith)))

  pub distinct_apart : (d : A) (l : List A) → distinct number l ≡ true → (i j : ℕ) → i < j → j < length l → number (get_or l j d) ≢ number (get_or l i d)
  unfolding distinct
  distinct_apart d [] e i j h t = absurd (not-suc-le-zero t)
  distinct_apart d (x ∷ l) e i zero h t = absurd (omega arith)
  distinct_apart d (x ∷ l) e zero (suc j) h t =
      eqb-false _ (number x) (not-true _ (all_at (λ y. not (eqb (number y) (number x))) d l (and_left (all (λ y. not (eqb (number y) (number x))) l) (distinct number l) e) j (le_of_suc-le-suc t)))
  distinct_apart d (x ∷ l) e (suc i) (suc j) h t = distinct_apart d l (and_right (all (λ y. not (eqb (number y) (number x))) l) (distinct number l) e) i j (omega arith) (le_of_suc-le-suc t)

  -- two of the same number are one
  pub distinct-one : {x y : A} {l : List A} → Memᴰ x l → Memᴰ y l → distinct number l ≡ true → number x ≡ number y → x ≡ y
  unfolding distinct
  distinct-one (Memᴰ.head i) (Memᴰ.head j) d e = i ∙ sym j
  distinct-one {x} {y} (Memᴰ.head {x = h} {xs = l} i) (Memᴰ.tail m) d e =
      absurd (never (eqb (number y) (number h)) (eq-eqb (number y) (number h) (sym e ∙ ap number i)) (all_member (λ q. not (eqb (number q) (number h))) m (and_left (all (λ q. not (eqb (number q) (number h))) l) (distinct number l) d)))
  distinct-one {x} {y} (Memᴰ.tail {x = h} {xs = l} m) (Memᴰ.head j) d e =
      absurd (never (eqb (number x) (number h)) (eq-eqb (number x) (number h) (e ∙ ap number j)) (all_member (λ q. not (eqb (number q) (number h))) m (and_left (all (λ q. not (eqb (number q) (number h))) l) (distinct number l) d)))
  distinct-one (Memᴰ.tail {x = h} {xs = l} m) (Memᴰ.tail k) d e = distinct-one m k (and_right (all (λ q. not (eqb (number q) (number h))) l) (distinct number l) d) e

  -- the numbers of a list, as a set
  numbers_of : List A → Set
  numbers_of l c = any (λ x. eqb (number x) c) l

  -- they are as many as the records
  distinct-count : (n : ℕ) (l : List A) → all (λ x. ltb (number x) n) l ≡ true → distinct number l ≡ true → length l ≤ count_below n (numbers_of l)
  unfolding distinct all any numbers_of
  distinct-count n [] a d = omega arith
  distinct-count n (x ∷ l) a d =
      let ih = distinct-count n l (and_right (ltb (number x) n) (all (λ y. ltb (number y) n) l) a) (and_right (all (λ y. not (eqb (number y) (number x))) l) (distinct number l) d) in
      let m = count-more n (numbers_of l) (numbers_of (x ∷ l)) (λ c h e. or_right (eqb (number x) c) (numbers_of l c) e) (number x) (ltb-true (number x) n (and_left (ltb (number x) n) (all (λ y. ltb (number y) n) l) a))
      (alone l (and_left (all (λ y. not (eqb (number y) (number x))) l) (distinct number l) d)) (or_left (eqb (number x) (number x)) (numbers_of l (number x)) (eqb_same (number x))) in
      omega arith
    where
      alone : (k : List A) → all (λ y. not (eqb (number y) (number x))) k ≡ true → any (λ y. eqb (number y) (number x)) k ≡ false
      alone k h = no_true (any (λ y. eqb (number y) (number x)) k) (λ e. let f = find (λ y. eqb (number y) (number x)) (λ y. not (eqb (number y) (number x))) k e h in never (eqb (number f.0) (number x)) f.1 f.2)

  -- numbers from 1 to n, each once: at most n
  pub distinct_most : (n : ℕ) (l : List A) → all (λ x. ltb 0 (number x) && ltb (number x) (suc n)) l ≡ true → distinct number l ≡ true → length l ≤ n
  unfolding numbers_of everything
  distinct_most n l a d =
      let m = distinct-count (suc n) l (all_weaken _ (λ x. ltb (number x) (suc n)) (λ x h. and_right (ltb 0 (number x)) _ h) l a) d in
      let k = count-more (suc n) (numbers_of l) everything (λ c h e. refl) 0 (omega arith)
      (no_true (any (λ x. eqb (number x) 0) l) (λ e. let f = find (λ x. eqb (number x) 0) (λ x. ltb 0 (number x) && ltb (number x) (suc n)) l e a in
      omega (arith, eqb-true (number f.0) 0 f.1, ltb-true 0 (number f.0) (and_left (ltb 0 (number f.0)) _ f.2)))) refl in
      omega (arith, count-le (suc n) everything)

-- who enters a line takes the place of its own record, or comes last
pub enter-all : (p : LineRecord → Bool) (w : LineRecord) → p w ≡ true → (l : List LineRecord) → all p l ≡ true → all p (enter_line w l) ≡ true
unfolding all enter_line
enter-all p w h [] e = and_both (p w) true h refl
enter-all p w h (r ∷ l) e = go (eqb r.change w.change) (enter-all p w h l (and_right (p r) (all p l) e))
  where
    go : (b : Bool) → all p (enter_line w l) ≡ true → all p (cond b (w ∷ l) (r ∷ enter_line w l)) ≡ true
    go true ih = and_both (p w) (all p l) h (and_right (p r) (all p l) e)
    go false ih = and_both (p r) (all p (enter_line w l)) (and_left (p r) (all p l) e) ih

pub enter-distinct : (w : LineRecord) (l : List LineRecord) → distinct (λ r. r.change) l ≡ true → distinct (λ r. r.change) (enter_line w l) ≡ true
unfolding distinct enter_line all
enter-distinct w [] e = refl
enter-distinct w (r ∷ l) e = go (same? r.change w.change) (enter-distinct w l (and_right (all (λ q. not (eqb q.change r.change)) l) (distinct (λ q. q.change) l) e))
  where
    others : all (λ q. not (eqb q.change r.change)) l ≡ true
    others = and_left (all (λ q. not (eqb q.change r.change)) l) (distinct (λ q. q.change) l) e

    go : {b : Bool} → Same r.change w.change b → distinct (λ q. q.change) (enter_line w l) ≡ true → distinct (λ q. q.change) (cond b (w ∷ l) (r ∷ enter_line w l)) ≡ true
    go (same q) ih = rw (← q) e
    go (other n) ih = and_both (all (λ q. not (eqb q.change r.change)) (enter_line w l)) _ (enter-all (λ q. not (eqb q.change r.change)) w (ap not (ne_eqb w.change r.change (λ q. n (sym q)))) l others) ih
