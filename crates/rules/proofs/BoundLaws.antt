-- Of the numbers below a bound: whether one passes, all pass, how many, which is the lowest. What tests that agree have alike, and bounds past which none passes. Assumes nothing.
use mathlib.Core.Path.{◌≡◌, refl, sym, ap, ◌∙◌}
use mathlib.Core.Logic.{◌≢◌}
use mathlib.Core.Bool.{Bool, true, false, not, cond, ◌&&◌, ◌||◌, false≢true}
use Prim.Native.Nat.{ℕ, zero, suc, ◌+◌, ◌-◌, ◌≤◌, ◌<◌}
use native.Mathlib.Nat.{add-zero, add-suc, not-suc-le-zero}
use native.Mathlib.Omega.{arith}
use borrow.Author.Tests.{not-true}
use Rattle.rules.specs.Base.{any_below, all_below, count_below, lowest_below, lowest_or_zero}
use Rattle.rules.proofs.BaseLaws.{or_swap, any_intro, any_elim, any_below_none, none_below, all_below_intro, all_below_at, both_ways, no_true, Within, count_same, Same, same, other, same?, Below, under, over, below}

-- tests that agree below the bound
module _ (f g : ℕ → Bool) where
  pub any_ext : (n : ℕ) → ((k : ℕ) → k < n → f k ≡ g k) → any_below n f ≡ any_below n g
  unfolding any_below
  any_ext zero h = refl
  any_ext (suc n) h = rw (any_ext n (λ k l. h k (omega arith)), h n (omega arith))

  pub all_ext : (n : ℕ) → ((k : ℕ) → k < n → f k ≡ g k) → all_below n f ≡ all_below n g
  unfolding all_below
  all_ext zero h = refl
  all_ext (suc n) h = rw (all_ext n (λ k l. h k (omega arith)), h n (omega arith))

  pub count_ext : (n : ℕ) → ((k : ℕ) → k < n → f k ≡ g k) → count_below n f ≡ count_below n g
  unfolding count_below
  count_ext zero h = refl
  count_ext (suc n) h = rw (count_ext n (λ k l. h k (omega arith)), h n (omega arith))

  pub lowest_ext : (n : ℕ) → ((k : ℕ) → k < n → f k ≡ g k) → lowest_below n f ≡ lowest_below n g
  unfolding lowest_below
  lowest_ext zero h = refl
  lowest_ext (suc n) h = rw (any_ext n (λ k l. h k (omega arith)), lowest_ext n (λ k l. h k (omega arith)), h n (omega arith))

-- one of two tests, and a test that does not depend on the number
pub any_or : (n : ℕ) (p q : ℕ → Bool) → any_below n (λ k. p k || q k) ≡ any_below n p || any_below n q
unfolding any_below
any_or zero p q = refl
any_or (suc n) p q = rw (any_or n p q) (or_swap (any_below n p) (any_below n q) (p n) (q n))

pub any_and : (n : ℕ) (b : Bool) (p : ℕ → Bool) → any_below n (λ k. b && p k) ≡ b && any_below n p
unfolding any_below
any_and zero true p = refl
any_and zero false p = refl
any_and (suc n) true p = rw (any_and n true p)
any_and (suc n) false p = rw (any_and n false p)

-- no number passes where all fail
pub none_as : (n : ℕ) (p q : ℕ → Bool) → ((k : ℕ) → k < n → q k ≡ not (p k)) → not (any_below n p) ≡ all_below n q
none_as n p q h = both_ways _ _
    (λ e. all_below_intro n q (λ k l. h k l ∙ ap not (any_below_none n p (not-true _ e) k l)))
    (λ e. ap not (none_below n p (λ k l x. false≢true (rw x at (sym (h k l) ∙ all_below_at n q e k l)))))

module _ (p : ℕ → Bool) where
  -- the lowest is the one that passes, or the bound, with none before it
  pub lowest_is : (n r : ℕ) → r ≤ n → (r < n → p r ≡ true) → ((k : ℕ) → k < r → p k ≡ false) → lowest_below n p ≡ r
  unfolding lowest_below
  lowest_is zero r h hit none = omega arith
  lowest_is (suc n) r h hit none = go (same? r (suc n)) (same? r n) (lowest_is n r)
    where
      low : n ≤ r → any_below n p ≡ false
      low e = none_below n p (λ d l q. false≢true (sym (none d (omega arith)) ∙ q))

      go : {x y : Bool} → Same r (suc n) x → Same r n y → (r ≤ n → (r < n → p r ≡ true) → ((k : ℕ) → k < r → p k ≡ false) → lowest_below n p ≡ r)
          → cond (any_below n p) (lowest_below n p) (cond (p n) n (suc n)) ≡ r
      go (same e) s ih = rw (low (omega arith), none n (omega arith)) (sym e)
      go (other u) (same e) ih = rw (low (omega arith), rw e at (hit (omega arith))) (sym e)
      go (other u) (other v) ih = rw (any_intro n p r (omega arith) (hit (omega arith))) (ih (omega arith) (λ l. hit (omega arith)) none)

  -- at most the bound
  pub lowest_most : (n : ℕ) → lowest_below n p ≤ n
  unfolding lowest_below
  lowest_most zero = omega arith
  lowest_most (suc n) = go (any_below n p) (p n) (lowest_most n)
    where
      go : (a b : Bool) → lowest_below n p ≤ n → cond a (lowest_below n p) (cond b n (suc n)) ≤ suc n
      go true b h = omega arith
      go false true h = omega arith
      go false false h = omega arith

  -- where one passes, the lowest is below the bound and passes
  pub lowest_hit : (n : ℕ) → any_below n p ≡ true → (lowest_below n p < n) × (p (lowest_below n p) ≡ true)
  unfolding any_below lowest_below
  lowest_hit zero e = absurd (false≢true e)
  lowest_hit (suc n) e = go (any_below n p) (p n) refl refl (lowest_hit n)
    where
      go : (a b : Bool) → any_below n p ≡ a → p n ≡ b → (any_below n p ≡ true → (lowest_below n p < n) × (p (lowest_below n p) ≡ true))
          → (cond a (lowest_below n p) (cond b n (suc n)) < suc n) × (p (cond a (lowest_below n p) (cond b n (suc n))) ≡ true)
      go true b q r ih = let m = ih q in (omega (arith, m.0), m.1)
      go false true q r ih = (omega arith, r)
      go false false q r ih = absurd (false≢true (sym (rw (q, r)) ∙ e))

  -- a lowest below the bound passes
  pub lowest_found : (n : ℕ) → lowest_below n p < n → p (lowest_below n p) ≡ true
  lowest_found n h = go (any_below n p) refl
    where
      go : (b : Bool) → any_below n p ≡ b → p (lowest_below n p) ≡ true
      go true q = (lowest_hit n q).1
      go false q = absurd (omega (arith, lowest_is n n (omega arith) (λ l. absurd (omega arith)) (any_below_none n p q)))

  -- none below the lowest passes
  pub lowest_below_lem : (n k : ℕ) → k < lowest_below n p → p k ≡ false
  unfolding lowest_below
  lowest_below_lem zero k h = absurd (not-suc-le-zero h)
  lowest_below_lem (suc n) k h = go (any_below n p) (p n) refl refl h (lowest_below_lem n k)
    where
      go : (a b : Bool) → any_below n p ≡ a → p n ≡ b → k < cond a (lowest_below n p) (cond b n (suc n)) → (k < lowest_below n p → p k ≡ false) → p k ≡ false
      go true b q r l ih = ih l
      go false true q r l ih = any_below_none n p q k l
      go false false q r l ih = at (same? k n)
        where
          at : {x : Bool} → Same k n x → p k ≡ false
          at (same e) = rw e r
          at (other u) = any_below_none n p q k (omega arith)

  -- a bound past which none passes plays no part
  pub any_bound : (n m : ℕ) → n ≤ m → ((k : ℕ) → n ≤ k → k < m → p k ≡ false) → any_below m p ≡ any_below n p
  any_bound n m le past = both_ways _ _ (λ e. let a = any_elim m p e in any_intro n p a.0 (before a.0 a.1 a.2) a.2)
      (λ e. let a = any_elim n p e in any_intro m p a.0 (omega (arith, a.1)) a.2)
    where
      before : (k : ℕ) → k < m → p k ≡ true → k < n
      before k l e = go (below k n)
        where
          go : {b : Bool} → Below k n b → k < n
          go (under h) = h
          go (over h) = absurd (false≢true (sym (past k h l) ∙ e))

  -- nor, for the lowest that passes, one above it
  pub lowest_bound : (n m : ℕ) → n ≤ m → any_below n p ≡ true → lowest_below m p ≡ lowest_below n p
  lowest_bound n m le e = let h = lowest_hit n e in lowest_is m (lowest_below n p) (omega (arith, h.0)) (λ l. h.1) (lowest_below_lem n)

  count-from : (n i : ℕ) → ((k : ℕ) → n ≤ k → p k ≡ false) → count_below (n + i) p ≡ count_below n p
  unfolding count_below
  count-from n zero past = ap (λ x. count_below x p) (add-zero n)
  count-from n (suc i) past = ap (λ x. count_below x p) (add-suc n i) ∙ rw (past (n + i) (omega arith)) (count-from n i past)

  -- how many pass, whatever the bound past them
  pub count_bound : (n m : ℕ) → n ≤ m → ((k : ℕ) → n ≤ k → p k ≡ false) → count_below m p ≡ count_below n p
  count_bound n m le past = let e : n + (m - n) ≡ m = omega arith in ap (λ x. count_below x p) (sym e) ∙ count-from n (m - n) past

  -- counted in two parts
  pub count_add : (n m : ℕ) → count_below (n + m) p ≡ count_below n p + count_below m (λ k. p (n + k))
  unfolding count_below
  count_add n zero = rw (add-zero n, add-zero (count_below n p))
  count_add n (suc m) = ap (λ x. count_below x p) (add-suc n m) ∙ go (p (n + m)) (count_add n m)
    where
      go : (b : Bool) → count_below (n + m) p ≡ count_below n p + count_below m (λ k. p (n + k))
          → cond b (suc (count_below (n + m) p)) (count_below (n + m) p) ≡ count_below n p + cond b (suc (count_below m (λ k. p (n + k)))) (count_below m (λ k. p (n + k)))
      go true e = omega arith
      go false e = e

-- a set that holds another and one more has more members
pub count-more : (n : ℕ) (s t : ℕ → Bool) → Within n s t → (c : ℕ) → c < n → s c ≡ false → t c ≡ true → count_below n s < count_below n t
count-more n s t w c h e q = go (below (count_below n s) (count_below n t))
  where
    go : {b : Bool} → Below (count_below n s) (count_below n t) b → count_below n s < count_below n t
    go (under l) = l
    go (over l) = absurd (false≢true (sym e ∙ count_same n s t w l c h q))

-- where none is counted none passes
pub count_none : (n : ℕ) (p : ℕ → Bool) → count_below n p ≡ 0 → (j : ℕ) → j < n → p j ≡ false
count_none n p e j h = no_true (p j) (λ q. omega (arith, count-more n (λ i. false) p (λ i l z. absurd (false≢true z)) j h refl q))

-- where one is counted one passes
pub count-some : (n : ℕ) (p : ℕ → Bool) → (count_below n p ≡ 0 → ⊥) → (j : ℕ) × (j < n) × (p j ≡ true)
unfolding count_below
count-some zero p h = absurd (h refl)
count-some (suc n) p h = go (p n) refl h (count-some n p)
  where
    go : (b : Bool) → p n ≡ b → (cond b (suc (count_below n p)) (count_below n p) ≡ 0 → ⊥) → ((count_below n p ≡ 0 → ⊥) → (j : ℕ) × (j < n) × (p j ≡ true)) → (j : ℕ) × (j < suc n) × (p j ≡ true)
    go true e f ih = (n, omega arith, e)
    go false e f ih = let w = ih f in (w.0, omega (arith, w.1), w.2)

-- THE LOWEST, OR 0
-- none passes, if 0 does not
pub lowest_zero : (n : ℕ) (p : ℕ → Bool) → p 0 ≡ false → lowest_or_zero n p ≡ 0 → (k : ℕ) → k < n → p k ≡ false
unfolding lowest_or_zero
lowest_zero n p z = go (any_below n p) refl
  where
    go : (b : Bool) → any_below n p ≡ b → cond b (lowest_below n p) 0 ≡ 0 → (k : ℕ) → k < n → p k ≡ false
    go true h e = absurd (false≢true (sym z ∙ ap p (sym e) ∙ (lowest_hit p n h).1))
    go false h e = any_below_none n p h

pub zero_lowest : (n : ℕ) (p : ℕ → Bool) → any_below n p ≡ false → lowest_or_zero n p ≡ 0
unfolding lowest_or_zero
zero_lowest n p e = rw e

-- one that is not 0 passes, and none below it
pub lowest_some : (n : ℕ) (p : ℕ → Bool) → lowest_or_zero n p ≢ 0 → (p (lowest_or_zero n p) ≡ true) × ((d : ℕ) → d < lowest_or_zero n p → p d ≡ false)
unfolding lowest_or_zero
lowest_some n p = go (any_below n p) refl
  where
    go : (b : Bool) → any_below n p ≡ b → cond b (lowest_below n p) 0 ≢ 0 → (p (cond b (lowest_below n p) 0) ≡ true) × ((d : ℕ) → d < cond b (lowest_below n p) 0 → p d ≡ false)
    go true h e = ((lowest_hit p n h).1, lowest_below_lem p n)
    go false h e = absurd (e refl)

-- tests that agree, and a bound past which none passes
pub lowest_as : (p q : ℕ → Bool) (n m : ℕ) → n ≤ m → ((k : ℕ) → k < m → p k ≡ q k) → ((k : ℕ) → n ≤ k → k < m → q k ≡ false) → lowest_or_zero m p ≡ lowest_or_zero n q
unfolding lowest_or_zero
lowest_as p q n m h f g = rw (any_ext p q m f, lowest_ext p q m f, any_bound q n m h g) (go (any_below n q) refl)
  where
    go : (b : Bool) → any_below n q ≡ b → cond b (lowest_below m q) 0 ≡ cond b (lowest_below n q) 0
    go true e = lowest_bound q n m h e
    go false e = refl
