-- Tests of all or some of a list, of which a part is kept, of which each is changed, to which one is added; how long they are; tables. Assumes nothing.
use mathlib.Core.Path.{◌≡◌, refl, ◌∙◌, ap, sym}
use mathlib.Core.Logic.{⊎_elim}
use mathlib.Core.Bool.{Bool, true, false, not, cond, ◌&&◌, ◌||◌, false≢true, true≢false, or_assoc}
use mathlib.Core.List.{List, [], ◌∷◌, ◌++◌, map, Memᴰ}
use Prim.Native.Nat.{ℕ, zero, suc, ◌+◌, ◌≤◌, ◌<◌}
use native.Mathlib.Nat.{zero-add, suc-add, not-suc-le-zero, le_of_suc-le-suc}
use native.Mathlib.Numerals.{add-one}
use native.Mathlib.Omega.{arith}
use lib.ListN.{length, get_or, length-append}
use Rattle.rules.specs.Base.{exceeds, all, any, keep, table}
use Rattle.rules.proofs.BaseLaws.{or_left, or_right, or_cases, or_swap, and_both, and_left, and_right, never, over_less}

module _ {ℓ} {A : Type ℓ} where
  -- what holds of all, and what holds of those that are kept because they are
  pub all_keep : (p q r : A → Bool) → ((x : A) → p x ≡ true → q x ≡ true → r x ≡ true) → (l : List A) → all p l ≡ true → all r (keep q l) ≡ true
  unfolding all keep
  all_keep p q r f [] e = refl
  all_keep p q r f (x ∷ l) e = go (q x) refl (all_keep p q r f l (and_right (p x) (all p l) e))
    where
      go : (b : Bool) → q x ≡ b → all r (keep q l) ≡ true → all r (cond b (x ∷ keep q l) (keep q l)) ≡ true
      go true h ih = and_both (r x) (all r (keep q l)) (f x (and_left (p x) (all p l) e) h) ih
      go false h ih = ih

  -- those kept of two lists
  pub keep_join : (q : A → Bool) (l m : List A) → keep q (l ++ m) ≡ keep q l ++ keep q m
  unfolding keep
  keep_join q [] m = refl
  keep_join q (x ∷ l) m = go (q x) (keep_join q l m)
    where
      go : (b : Bool) → keep q (l ++ m) ≡ keep q l ++ keep q m → cond b (x ∷ keep q (l ++ m)) (keep q (l ++ m)) ≡ cond b (x ∷ keep q l) (keep q l) ++ keep q m
      go true h = ap (λ (t : List A). x ∷ t) h
      go false h = h

  pub any-keep_up : (p q : A → Bool) → ((x : A) → p x ≡ true → q x ≡ true) → (l : List A) → any p l ≡ true → any p (keep q l) ≡ true
  unfolding any keep
  any-keep_up p q f [] e = e
  any-keep_up p q f (x ∷ l) e = ⊎_elim (λ h. rw (f x h, h)) (λ h. go (q x) (any-keep_up p q f l h)) (or_cases (p x) (any p l) e)
    where
      go : (b : Bool) → any p (keep q l) ≡ true → any p (cond b (x ∷ keep q l) (keep q l)) ≡ true
      go true h = or_right (p x) (any p (keep q l)) h
      go false h = h

  -- tests that agree where another holds keep the same; one that follows from it keeps all
  pub keep_same : (p q r : A → Bool) → ((x : A) → r x ≡ true → p x ≡ q x) → (l : List A) → all r l ≡ true → keep p l ≡ keep q l
  unfolding keep all
  keep_same p q r f [] e = refl
  keep_same p q r f (x ∷ l) e = rw (f x (and_left (r x) (all r l) e), keep_same p q r f l (and_right (r x) (all r l) e))

  pub keep_whole : (l : List A) → keep (λ x. true) l ≡ l
  unfolding keep
  keep_whole [] = refl
  keep_whole (x ∷ l) = ap (λ k. x ∷ k) (keep_whole l)

  pub keep_all : (r p : A → Bool) → ((x : A) → r x ≡ true → p x ≡ true) → (l : List A) → all r l ≡ true → keep p l ≡ l
  keep_all r p f l e = keep_same p (λ x. true) r f l e ∙ keep_whole l

  -- who is kept stood there and passes
  pub keep_member : (q : A → Bool) (l : List A) {x : A} → Memᴰ x (keep q l) → Memᴰ x l × (q x ≡ true)
  unfolding keep
  keep_member q [] {x = x} m = elim m [ ]
  keep_member q (y ∷ l) {x} m = go (q y) refl m (λ h. keep_member q l h)
    where
      go : (b : Bool) → q y ≡ b → Memᴰ x (cond b (y ∷ keep q l) (keep q l)) → (Memᴰ x (keep q l) → Memᴰ x l × (q x ≡ true)) → Memᴰ x (y ∷ l) × (q x ≡ true)
      go true h (Memᴰ.head e) ih = (Memᴰ.head e, rw e h)
      go true h (Memᴰ.tail k) ih = let r = ih k in (Memᴰ.tail r.0, r.1)
      go false h k ih = let r = ih k in (Memᴰ.tail r.0, r.1)

  -- a test of all, and of some, by members
  pub all-members : (p : A → Bool) (l : List A) → ((x : A) → Memᴰ x l → p x ≡ true) → all p l ≡ true
  unfolding all
  all-members p [] f = refl
  all-members p (x ∷ l) f = and_both (p x) (all p l) (f x (Memᴰ.head refl)) (all-members p l (λ y m. f y (Memᴰ.tail m)))

  pub all_member : (p : A → Bool) {x : A} {l : List A} → Memᴰ x l → all p l ≡ true → p x ≡ true
  unfolding all
  all_member p (Memᴰ.head {x = y} {xs = l} q) e = rw q (and_left (p y) (all p l) e)
  all_member p (Memᴰ.tail {x = y} {xs = l} m) e = all_member p m (and_right (p y) (all p l) e)

  pub any_member : (p : A → Bool) {x : A} {l : List A} → Memᴰ x l → p x ≡ true → any p l ≡ true
  unfolding any
  any_member p (Memᴰ.head {x = y} {xs = l} q) e = or_left (p y) (any p l) (rw q at e)
  any_member p (Memᴰ.tail {x = y} {xs = l} m) e = or_right (p y) (any p l) (any_member p m e)

  -- one member that passes
  pub any_find : (p : A → Bool) (l : List A) → any p l ≡ true → (x : A) × Memᴰ x l × (p x ≡ true)
  unfolding any
  any_find p [] e = absurd (false≢true e)
  any_find p (x ∷ l) e = ⊎_elim (λ a. (x, Memᴰ.head refl, a)) (λ a. let m = any_find p l a in (m.0, Memᴰ.tail m.1, m.2)) (or_cases (p x) (any p l) e)

  -- one that does not, where not all do
  pub all-fails : (p : A → Bool) (l : List A) → all p l ≡ false → (x : A) × Memᴰ x l × (p x ≡ false)
  unfolding all
  all-fails p [] e = absurd (true≢false e)
  all-fails p (x ∷ l) e = go (p x) refl e (all-fails p l)
    where
      go : (b : Bool) → p x ≡ b → b && all p l ≡ false → (all p l ≡ false → (y : A) × Memᴰ y l × (p y ≡ false)) → (y : A) × Memᴰ y (x ∷ l) × (p y ≡ false)
      go true h q ih = let m = ih q in (m.0, Memᴰ.tail m.1, m.2)
      go false h q ih = (x, Memᴰ.head refl, h)

  pub all_weaken : (p q : A → Bool) → ((x : A) → p x ≡ true → q x ≡ true) → (l : List A) → all p l ≡ true → all q l ≡ true
  all_weaken p q f l e = all-members q l (λ x m. f x (all_member p m e))

  pub any_weaken : (p q : A → Bool) → ((x : A) → p x ≡ true → q x ≡ true) → (l : List A) → any p l ≡ true → any q l ≡ true
  any_weaken p q f l e = let m = any_find p l e in any_member q m.1 (f m.0 m.2)

  -- one that passes, of a list of which another test holds throughout
  pub find : (p q : A → Bool) (l : List A) → any p l ≡ true → all q l ≡ true → (x : A) × (p x ≡ true) × (q x ≡ true)
  find p q l e h = let m = any_find p l e in (m.0, m.2, all_member q m.1 h)

  -- two lists, one after the other
  pub any_join : (p : A → Bool) (l m : List A) → any p (l ++ m) ≡ any p l || any p m
  unfolding any
  any_join p [] m = refl
  any_join p (x ∷ l) m = ap (λ b. p x || b) (any_join p l m) ∙ sym (or_assoc (p x) (any p l) (any p m))

  pub all_join : (p : A → Bool) (l m : List A) → all p l ≡ true → all p m ≡ true → all p (l ++ m) ≡ true
  unfolding all
  all_join p [] m d e = e
  all_join p (x ∷ l) m d e = and_both (p x) (all p (l ++ m)) (and_left (p x) (all p l) d) (all_join p l m (and_right (p x) (all p l) d) e)

  pub all_append : (p : A → Bool) (l : List A) (x : A) → all p l ≡ true → p x ≡ true → all p (l ++ (x ∷ [])) ≡ true
  unfolding all
  all_append p l x e h = all_join p l (x ∷ []) e (and_both (p x) true h refl)

  pub all_get_d : (p : A → Bool) (l : List A) (j : ℕ) (d : A) → all p l ≡ true → p d ≡ true → p (get_or l j d) ≡ true
  unfolding all
  all_get_d p [] j d e h = h
  all_get_d p (x ∷ l) zero d e h = and_left (p x) (all p l) e
  all_get_d p (x ∷ l) (suc j) d e h = all_get_d p l j d (and_right (p x) (all p l) e) h

  -- tests of all and of some, by places
  pub all_at : (p : A → Bool) (d : A) (l : List A) → all p l ≡ true → (j : ℕ) → j < length l → p (get_or l j d) ≡ true
  unfolding all
  all_at p d [] e j h = absurd (not-suc-le-zero h)
  all_at p d (x ∷ l) e zero h = and_left (p x) (all p l) e
  all_at p d (x ∷ l) e (suc j) h = all_at p d l (and_right (p x) (all p l) e) j (le_of_suc-le-suc h)

  pub all_places : (p : A → Bool) (d : A) (l : List A) → ((j : ℕ) → j < length l → p (get_or l j d) ≡ true) → all p l ≡ true
  unfolding all
  all_places p d [] h = refl
  all_places p d (x ∷ l) h = and_both (p x) (all p l) (h 0 (omega arith)) (all_places p d l (λ j m. h (suc j) (omega arith)))

  pub all-table : (p : A → Bool) (f : ℕ → A) (n i : ℕ) → ((j : ℕ) → j < i + n → p (f j) ≡ true) → all p (table n i f) ≡ true
  unfolding all table
  all-table p f zero i h = refl
  all-table p f (suc n) i h = and_both (p (f i)) _ (h i (omega arith)) (all-table p f n (suc i) (λ j a. h j (omega arith)))

  pub any_at : (p : A → Bool) (d : A) (l : List A) (j : ℕ) → j < length l → p (get_or l j d) ≡ true → any p l ≡ true
  unfolding any
  any_at p d [] j h e = absurd (not-suc-le-zero h)
  any_at p d (x ∷ l) zero h e = or_left (p x) (any p l) e
  any_at p d (x ∷ l) (suc j) h e = or_right (p x) (any p l) (any_at p d l j (le_of_suc-le-suc h) e)

  pub any_place : (p : A → Bool) (d : A) (l : List A) → any p l ≡ true → (j : ℕ) × (j < length l) × (p (get_or l j d) ≡ true)
  unfolding any
  any_place p d [] e = absurd (false≢true e)
  any_place p d (x ∷ l) e = ⊎_elim (λ q. (0, omega arith, q)) (λ q. let m = any_place p d l q in (suc m.0, omega (arith, m.1), m.2)) (or_cases (p x) (any p l) e)

  pub length-append-one : (l : List A) (x : A) → length (l ++ (x ∷ [])) ≡ suc (length l)
  length-append-one l x = length-append l (x ∷ []) ∙ add-one (length l)

  -- two parts of which none is in both
  pub length-parts : (p q : A → Bool) → ((x : A) → p x ≡ true → q x ≡ true → ⊥) → (l : List A) → length (keep p l) + length (keep q l) ≤ length l
  unfolding keep
  length-parts p q f [] = omega arith
  length-parts p q f (x ∷ l) = go (p x) (q x) (f x) (length-parts p q f l)
    where
      go : (a b : Bool) → (a ≡ true → b ≡ true → ⊥) → length (keep p l) + length (keep q l) ≤ length l
          → length (cond a (x ∷ keep p l) (keep p l)) + length (cond b (x ∷ keep q l) (keep q l)) ≤ suc (length l)
      go true true g h = absurd (g refl refl)
      go true false g h = omega arith
      go false true g h = omega arith
      go false false g h = omega arith

  pub length-keep : (q : A → Bool) (l : List A) → length (keep q l) ≤ length l
  length-keep q l = omega (arith, length-parts q (λ x. not (q x)) (λ x. never (q x)) l)

  pub fewer : (q : A → Bool) (l : List A) (n : ℕ) → not (exceeds (length l) n) ≡ true → not (exceeds (length (keep q l)) n) ≡ true
  fewer q l n e = over_less (length l) (length (keep q l)) n (length-keep q l) e

-- a table in two parts, and with one place more
pub table-append {ℓ} : {A : Type ℓ} (m n i : ℕ) (f : ℕ → A) → table (m + n) i f ≡ table m i f ++ table n (i + m) f
unfolding table
table-append zero n i f = let e : i + 0 ≡ i = omega arith in rw (zero-add n, e)
table-append (suc m) n i f = let e : suc i + m ≡ i + suc m = omega arith in rw (suc-add m n) (ap (λ l. f i ∷ l) (table-append m n (suc i) f ∙ rw e))

pub table_more {ℓ} : {A : Type ℓ} (n : ℕ) (f : ℕ → A) → table (suc n) 0 f ≡ table n 0 f ++ (f n ∷ [])
unfolding table
table_more n f = ap (λ k. table k 0 f) (sym (add-one n)) ∙ table-append n 1 0 f ∙ ap (λ k. table n 0 f ++ (f k ∷ [])) (zero-add n)

pub all_map {ℓ κ} : {A : Type ℓ} {B : Type κ} (p : B → Bool) (q : A → Bool) (f : A → B) → ((x : A) → q x ≡ true → p (f x) ≡ true) → (l : List A) → all q l ≡ true → all p (map f l) ≡ true
unfolding all
all_map p q f h [] e = refl
all_map p q f h (x ∷ l) e = and_both (p (f x)) (all p (map f l)) (h x (and_left (q x) (all q l) e)) (all_map p q f h l (and_right (q x) (all q l) e))

-- a test of some of a list that was changed, of a part of it; one of two tests, and a test that nothing passes
pub any-map {ℓ κ} : {A : Type ℓ} {B : Type κ} (f : B → Bool) (h : A → B) (l : List A) → any f (map h l) ≡ any (λ x. f (h x)) l
unfolding any
any-map f h [] = refl
any-map f h (x ∷ l) = ap (λ b. f (h x) || b) (any-map f h l)

pub any-kept {ℓ} : {A : Type ℓ} (f q : A → Bool) (l : List A) → any f (keep q l) ≡ any (λ x. q x && f x) l
unfolding any keep
any-kept f q [] = refl
any-kept f q (x ∷ l) = go (q x) (any-kept f q l)
  where
    go : (b : Bool) → any f (keep q l) ≡ any (λ x. q x && f x) l → any f (cond b (x ∷ keep q l) (keep q l)) ≡ b && f x || any (λ x. q x && f x) l
    go true e = ap (λ b. f x || b) e
    go false e = e

pub any-keep {ℓ} : {A : Type ℓ} (p q : A → Bool) (l : List A) → any p (keep q l) ≡ true → any p l ≡ true
any-keep p q l e = any_weaken (λ x. q x && p x) p (λ x. and_right (q x) (p x)) l (rw (any-kept p q l) at e)

pub any_either {ℓ} : {A : Type ℓ} (f h : A → Bool) (l : List A) → any f l || any h l ≡ any (λ x. f x || h x) l
unfolding any
any_either f h [] = refl
any_either f h (x ∷ l) = or_swap (f x) (any f l) (h x) (any h l) ∙ ap (λ b. (f x || h x) || b) (any_either f h l)

pub any_false {ℓ} : {A : Type ℓ} (l : List A) → any (λ x. false) l ≡ false
unfolding any
any_false [] = refl
any_false (x ∷ l) = any_false l
