-- How many orders a set has: the recursion that a program follows set by set, at most the factorial, and the same when the members are numbered anew in rising order. Assumes nothing.
use mathlib.Core.Path.{◌≡◌, refl, sym, ◌∙◌, ap}
use mathlib.Core.Logic.{◌≢◌}
use mathlib.Core.Bool.{Bool, true, false, not, cond, ◌&&◌, false≢true}
use Prim.Native.Nat.{ℕ, zero, suc, ◌+◌, ◌*◌, ◌≤◌, ◌<◌}
use native.Mathlib.Nat.{le_trans, suc-mul, mul-le-mul_right, mul-le-mul}
use native.Mathlib.Omega.{arith}
use lib.Dec.{eqb}
use Rattle.rules.specs.Base.{any_below, count_below}
use Rattle.rules.specs.Sets.{Set, Rel}
use Rattle.rules.specs.Orders.{sum_below, without, free, ways}
use Rattle.rules.proofs.BaseLaws.{eqb_iff}
use Rattle.rules.proofs.BoundLaws.{any_ext}
use Rattle.rules.proofs.OrderLaws.{free_in, rest_count}
use Rattle.rules.proofs.OrderLists.{sum_ext}
use Rattle.rules.proofs.RankLaws.{count_up, sum_rank, any-rank, rank_same}

-- 1 * 2 * … * n
unfoldable pub factorial : ℕ → ℕ
factorial zero = 1
factorial (suc n) = suc n * factorial n

module _ (n : ℕ) (r : Rel) where
  -- sets that agree below n have the same orders
  pub free_ext : (s t : Set) → ((g : ℕ) → g < n → s g ≡ t g) → (g : ℕ) → g < n → free n r s g ≡ free n r t g
  unfolding free
  free_ext s t e g h = rw (e g h, any_ext (λ d. s d && r d g) (λ d. t d && r d g) n (λ d l. rw (e d l)))

  pub ways_ext : (k : ℕ) (s t : Set) → ((g : ℕ) → g < n → s g ≡ t g) → ways n r k s ≡ ways n r k t
  unfolding ways without
  ways_ext zero s t e = refl
  ways_ext (suc k) s t e = sum_ext n _ _ (λ g h. rw (free_ext s t e g h, ways_ext k (without s g) (without t g) (λ d l. rw (e d l))))

  -- 'a window with none live has one'
  pub ways-none : (s : Set) → count_below n s ≡ 0 → ways n r (count_below n s) s ≡ 1
  unfolding ways
  ways-none s e = rw e

  -- of another set: the sum, over the members that no member leads, of the orders of the set without it
  pub ways-some : (s : Set) → count_below n s ≢ 0 → ways n r (count_below n s) s ≡ sum_below n (λ g. cond (free n r s g) (ways n r (count_below n (without s g)) (without s g)) 0)
  ways-some s h = go (count_below n s) refl
    where
      go : (k : ℕ) → count_below n s ≡ k → ways n r k s ≡ sum_below n (λ g. cond (free n r s g) (ways n r (count_below n (without s g)) (without s g)) 0)
      go zero e = absurd (h e)
      go (suc k) e = unfold ways in sum_ext n _ _ (λ g l. at g l (free n r s g) refl)
        where
          at : (g : ℕ) → g < n → (b : Bool) → free n r s g ≡ b → cond b (ways n r k (without s g)) 0 ≡ cond b (ways n r (count_below n (without s g)) (without s g)) 0
          at g l true q = ap (λ x. ways n r x (without s g)) (sym (rest_count n r k s g l q e))
          at g l false q = refl

-- a sum of at most m for each member
sum_most : (n m : ℕ) (s : Set) (f : ℕ → ℕ) → ((g : ℕ) → g < n → f g ≤ cond (s g) m 0) → sum_below n f ≤ count_below n s * m
unfolding sum_below count_below
sum_most zero m s f h = omega arith
sum_most (suc n) m s f h = go (s n) (h n (omega arith)) (sum_most n m s f (λ g l. h g (omega arith)))
  where
    go : (b : Bool) → f n ≤ cond b m 0 → sum_below n f ≤ count_below n s * m → sum_below n f + f n ≤ cond b (suc (count_below n s)) (count_below n s) * m
    go true p q = rw (suc-mul (count_below n s) m) (omega arith)
    go false p q = omega arith

module _ (n : ℕ) (r : Rel) where
  parts : (k j : ℕ) (s : Set) → count_below n s ≡ suc k → j ≤ n → ((g : ℕ) → g < n → free n r s g ≡ true → ways n r k (without s g) ≤ factorial k)
      → sum_below j (λ g. cond (free n r s g) (ways n r k (without s g)) 0) ≤ suc k * factorial k
  parts k j s e l h = le_trans (sum_most j (factorial k) s _ (λ g i. at g (omega arith) (free n r s g) refl (s g) refl)) (mul-le-mul_right (factorial k) (rw e at (count_up j n s l)))
    where
      at : (g : ℕ) → g < n → (b : Bool) → free n r s g ≡ b → (c : Bool) → s g ≡ c → cond b (ways n r k (without s g)) 0 ≤ cond c (factorial k) 0
      at g i true q true p = h g i q
      at g i true q false p = absurd (false≢true (sym p ∙ free_in n r s g q))
      at g i false q c p = omega arith

  -- a set of k members has at most k! orders
  pub ways-most : (k : ℕ) (s : Set) → count_below n s ≡ k → ways n r k s ≤ factorial k
  unfolding ways factorial
  ways-most zero s e = omega arith
  ways-most (suc k) s e = parts k n s e (omega arith) (λ g h f. ways-most k (without s g) (rest_count n r k s g h f e))

  -- and no part of the sum is more
  pub part-most : (k j : ℕ) (s : Set) → count_below n s ≡ suc k → j ≤ n → sum_below j (λ g. cond (free n r s g) (ways n r k (without s g)) 0) ≤ factorial (suc k)
  unfolding factorial
  part-most k j s e l = parts k j s e l (λ g h f. ways-most k (without s g) (rest_count n r k s g h f e))

-- factorials rise, and 12! is 479,001,600
pub factorial_up : (j k : ℕ) → j ≤ k → factorial j ≤ factorial k
unfolding factorial
factorial_up zero zero h = omega arith
factorial_up zero (suc k) h = let i = factorial_up zero k (omega arith) in rw (suc-mul k (factorial k)) (omega (arith, i))
factorial_up (suc j) zero h = absurd (omega arith)
factorial_up (suc j) (suc k) h = mul-le-mul (h) (factorial_up j k (omega arith))

pub factorial_12 : factorial 12 ≡ 479001600
unfolding factorial
factorial_12 = refl

-- the members of s numbered anew, from 0 in rising order: the number of g is how many are below it
module _ (s : Set) where
  -- the members whose numbers are in t
  unfoldable pub numbered : Set → Set
  numbered t g = s g && t (count_below g s)

  -- a relation of members, and the same of their numbers
  module _ (n : ℕ) (r b : Rel) (agree : (h g : ℕ) → h < n → g < n → s h ≡ true → s g ≡ true → r h g ≡ b (count_below h s) (count_below g s)) where
    free-rank : (t : Set) (g : ℕ) → g < n → free n r (numbered t) g ≡ s g && free (count_below n s) b t (count_below g s)
    unfolding free numbered
    free-rank t g l = go (s g) refl (t (count_below g s))
      where
        led : s g ≡ true → any_below n (λ h. (s h && t (count_below h s)) && r h g) ≡ any_below (count_below n s) (λ i. t i && b i (count_below g s))
        led e = any_ext _ (λ h. s h && (t (count_below h s) && b (count_below h s) (count_below g s))) n (λ h i. at h i (s h) refl (t (count_below h s))) ∙ any-rank s n (λ i. t i && b i (count_below g s))
          where
            at : (h : ℕ) → h < n → (x : Bool) → s h ≡ x → (y : Bool) → (x && y) && r h g ≡ x && (y && b (count_below h s) (count_below g s))
            at h i true q true = agree h g i l q e
            at h i true q false = refl
            at h i false q y = refl

        go : (x : Bool) → s g ≡ x → (y : Bool) → (x && y) && not (any_below n (λ h. (s h && t (count_below h s)) && r h g)) ≡ x && (y && not (any_below (count_below n s) (λ i. t i && b i (count_below g s))))
        go true e true = ap not (led e)
        go true e false = refl
        go false e y = refl

    rest_rank : (t : Set) (g : ℕ) → g < n → s g ≡ true → (d : ℕ) → d < n → without (numbered t) g d ≡ numbered (without t (count_below g s)) d
    unfolding without numbered
    rest_rank t g l e d i = go (s d) refl (t (count_below d s))
      where
        go : (x : Bool) → s d ≡ x → (y : Bool) → (x && y) && not (eqb d g) ≡ x && (y && not (eqb (count_below d s) (count_below g s)))
        go true q true = ap not (eqb_iff d g (count_below d s) (count_below g s) (ap (λ x. count_below x s)) (rank_same s d g q e))
        go true q false = refl
        go false q y = refl

    pub ways-rank : (k : ℕ) (t : Set) → ways n r k (numbered t) ≡ ways (count_below n s) b k t
    unfolding ways
    ways-rank zero t = refl
    ways-rank (suc k) t = sum_ext n _ (λ g. cond (s g) (cond (free (count_below n s) b t (count_below g s)) (ways (count_below n s) b k (without t (count_below g s))) 0) 0)
        (λ g l. rw (free-rank t g l) (at g l (s g) refl (free (count_below n s) b t (count_below g s)) (ways-rank k (without t (count_below g s)))))
        ∙ sum_rank s n (λ i. cond (free (count_below n s) b t i) (ways (count_below n s) b k (without t i)) 0)
      where
        at : (g : ℕ) → g < n → (x : Bool) → s g ≡ x → (y : Bool) → ways n r k (numbered (without t (count_below g s))) ≡ ways (count_below n s) b k (without t (count_below g s))
            → cond (x && y) (ways n r k (without (numbered t) g)) 0 ≡ cond x (cond y (ways (count_below n s) b k (without t (count_below g s))) 0) 0
        at g l true q true ih = ways_ext n r k (without (numbered t) g) (numbered (without t (count_below g s))) (rest_rank t g l q) ∙ ih
        at g l true q false ih = refl
        at g l false q y ih = refl
