-- The orders of a set of numbers in which each stands after all that lead it (the linear extensions of a relation), how many there are, and the one that takes the lowest first.
-- A sheet of commit order takes groups for numbers. Assumes nothing.
use Rattle.std.specs.Prelude.{◌≡◌, true, not, cond, ◌&&◌, List, [], ◌∷◌, ◌++◌, map, ℕ, zero, suc, ◌+◌, ◌<◌, ltb, eqb}
use Rattle.rules.specs.Base.{any_below, lowest_below}
use Rattle.rules.specs.Sets.{Set, Rel}

-- f 0 + f 1 + … + f (n - 1)
unfoldable pub sum_below : ℕ → (ℕ → ℕ) → ℕ
sum_below zero f = 0
sum_below (suc n) f = sum_below n f + f n

-- f 0, f 1, …, f (n - 1), one list after the other
unfoldable pub join_below {ℓ} : {A : Type ℓ} → ℕ → (ℕ → List A) → List A
join_below zero f = []
join_below (suc n) f = join_below n f ++ f n

-- how often a number stands in a list
unfoldable pub occurs : ℕ → List ℕ → ℕ
occurs g [] = 0
occurs g (x ∷ l) = cond (eqb g x) (suc (occurs g l)) (occurs g l)

-- its place, from 0: how many stand before it. The length where it does not stand
unfoldable pub place_in : List ℕ → ℕ → ℕ
place_in [] g = 0
place_in (x ∷ l) g = cond (eqb g x) 0 (suc (place_in l g))

-- a set without one
unfoldable pub without : Set → ℕ → Set
without s g d = s d && not (eqb d g)

-- of a set of numbers below n, where r a b says that a leads b
module _ (n : ℕ) (r : Rel) where
  -- an order: each member stands once and nothing else does, 'each stands after all its leader groups'
  pub record Order (s : Set) (l : List ℕ) : Type 0 where
    pub once : (g : ℕ) → occurs g l ≡ cond (ltb g n && s g) 1 0
    pub after : (h g : ℕ) → h < n → g < n → s h ≡ true → s g ≡ true → r h g ≡ true → place_in l h < place_in l g

  -- the members that no member leads: with the others of the set placed already, those 'whose leader groups are all placed'
  unfoldable pub free : Set → Set
  free s g = s g && not (any_below n (λ h. s h && r h g))

  -- all orders of a set of k members: each that is free comes first, and then come all orders of the rest.
  -- proofs/OrderLists shows that they are the lists that `Order` allows, none twice
  unfoldable pub orders : ℕ → Set → List (List ℕ)
  orders zero s = [] ∷ []
  orders (suc k) s = join_below n (λ g. cond (free s g) (map (λ l. g ∷ l) (orders k (without s g))) [])

  -- how many, by recursion over sets (what code counts by; proofs/OrderLists.ways-orders): of the empty set one; of another the sum, over the members
  -- that are free, of those of the set without it
  unfoldable pub ways : ℕ → Set → ℕ
  ways zero s = 1
  ways (suc k) s = sum_below n (λ g. cond (free s g) (ways k (without s g)) 0)

  -- 'Among the groups whose leader groups are all placed, the one with the lowest change number comes next': k times over, where s are those not placed yet
  unfoldable pub lowest_first : ℕ → Set → List ℕ
  lowest_first zero s = []
  lowest_first (suc k) s = lowest_below n (free s) ∷ lowest_first k (without s (lowest_below n (free s)))
