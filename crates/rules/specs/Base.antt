-- Tests, functions changed at a place, bounded quantifiers, sorted lists: nothing of the window. Assumes nothing.
use Rattle.std.specs.Prelude.{Bool, true, false, not, cond, ◌&&◌, ◌||◌, List, [], ◌∷◌, ltb, eqb}
use Prim.Native.Nat.{ℕ, zero, suc, compare, Ordering}

-- a function with one place changed
unfoldable pub put {ℓ} : {A : Type ℓ} → (ℕ → A) → ℕ → A → ℕ → A
put f i v j = cond (eqb j i) v (f j)

-- the same of a function of two places
unfoldable pub put2 {ℓ} : {A : Type ℓ} → (ℕ → ℕ → A) → ℕ → ℕ → A → ℕ → ℕ → A
put2 f i j v x y = cond (eqb x i && eqb y j) v (f x y)

-- the first figure is above the second. By clauses, so that it computes where the second is `suc k` with k unknown
unfoldable pub exceeds : ℕ → ℕ → Bool
exceeds zero n = false
exceeds (suc m) zero = true
exceeds (suc m) (suc n) = exceeds m n

-- not from low to high
unfoldable pub outside : ℕ → ℕ → ℕ → Bool
outside low high x = ltb x low || ltb high x

-- of the numbers below a bound: all pass, one passes, how many pass
unfoldable pub all_below : ℕ → (ℕ → Bool) → Bool
all_below zero p = true
all_below (suc n) p = all_below n p && p n

unfoldable pub any_below : ℕ → (ℕ → Bool) → Bool
any_below zero p = false
any_below (suc n) p = any_below n p || p n

unfoldable pub count_below : ℕ → (ℕ → Bool) → ℕ
count_below zero p = zero
count_below (suc n) p = cond (p n) (suc (count_below n p)) (count_below n p)

-- the lowest number below the bound that passes; the bound itself where none does
unfoldable pub lowest_below : ℕ → (ℕ → Bool) → ℕ
lowest_below zero p = zero
lowest_below (suc n) p = cond (any_below n p) (lowest_below n p) (cond (p n) n (suc n))

-- the same, with 0 where none does
unfoldable pub lowest_or_zero : ℕ → (ℕ → Bool) → ℕ
lowest_or_zero n p = cond (any_below n p) (lowest_below n p) 0

-- f i, f (i + 1), … : k of them
unfoldable pub table {ℓ} : {A : Type ℓ} → ℕ → ℕ → (ℕ → A) → List A
table zero i f = []
table (suc k) i f = f i ∷ table k (suc i) f

-- of a list: all pass, one passes, those that pass
unfoldable pub all {ℓ} : {A : Type ℓ} → (A → Bool) → List A → Bool
all p [] = true
all p (x ∷ l) = p x && all p l

unfoldable pub any {ℓ} : {A : Type ℓ} → (A → Bool) → List A → Bool
any p [] = false
any p (x ∷ l) = p x || any p l

unfoldable pub keep {ℓ} : {A : Type ℓ} → (A → Bool) → List A → List A
keep p [] = []
keep p (x ∷ l) = cond (p x) (x ∷ keep p l) (keep p l)

-- a sort key: three numbers, in rising order of the first, then the second, then the third
pub record Key : Type 0 where
  pub k1 : ℕ
  pub k2 : ℕ
  pub k3 : ℕ

-- one order and, where it says equal, a second
unfoldable pub and_then : Ordering → Ordering → Ordering
and_then Ordering.lt o = Ordering.lt
and_then Ordering.eq o = o
and_then Ordering.gt o = Ordering.gt

-- how two keys stand to each other
unfoldable pub order : Key → Key → Ordering
order a b = and_then (compare a.k1 b.k1) (and_then (compare a.k2 b.k2) (compare a.k3 b.k3))

-- below
unfoldable pub is_lt : Ordering → Bool
is_lt Ordering.lt = true
is_lt Ordering.eq = false
is_lt Ordering.gt = false

-- one of three: below, equal, above
unfoldable pub by_order {ℓ} : {A : Type ℓ} → Ordering → A → A → A → A
by_order Ordering.lt x y z = x
by_order Ordering.eq x y z = y
by_order Ordering.gt x y z = z

-- a record put in its place; one of the same key is united with it
unfoldable pub insert {ℓ} : {A : Type ℓ} → (A → Key) → (A → A → A) → A → List A → List A
insert key unite x [] = x ∷ []
insert key unite x (y ∷ l) = by_order (order (key x) (key y)) (x ∷ y ∷ l) (unite x y ∷ l) (y ∷ insert key unite x l)

-- each key above all before it, so each stands once
unfoldable pub rising {ℓ} : {A : Type ℓ} → (A → Key) → List A → Bool
rising key [] = true
rising key (x ∷ l) = all (λ y. is_lt (order (key x) (key y))) l && rising key l

-- no number stands twice
unfoldable pub distinct {ℓ} : {A : Type ℓ} → (A → ℕ) → List A → Bool
distinct number [] = true
distinct number (x ∷ l) = all (λ y. not (eqb (number y) (number x))) l && distinct number l
