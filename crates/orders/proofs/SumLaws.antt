-- Sums over the members of a set. Assumes nothing.
use mathlib.Core.Path.{◌≡◌, refl, sym, ap}
use mathlib.Core.Bool.{Bool, true, not, cond, ◌&&◌, and-true, and-false}
use Prim.Native.Nat.{ℕ, zero, suc, ◌+◌, ◌<◌}
use native.Mathlib.Nat.{not-suc-le-zero}
use native.Mathlib.Omega.{arith}
use borrow.Author.Tests.{ne_eqb}
use lib.Dec.{eqb}
use Rattle.rules.specs.Sets.{Set}
use Rattle.rules.specs.Orders.{sum_below, without}
use Rattle.rules.proofs.BaseLaws.{Same, same, other, same?, eqb_same}
use Rattle.rules.proofs.OrderLists.{sum_ext}

-- numbers that are all 0
pub sum_none : (n : ℕ) (f : ℕ → ℕ) → ((g : ℕ) → g < n → f g ≡ 0) → sum_below n f ≡ 0
unfolding sum_below
sum_none zero f e = refl
sum_none (suc n) f e = omega (arith, sum_none n f (λ g l. e g (omega arith)), e n (omega arith))

-- a member taken out
pub sum_without : (n : ℕ) (s : Set) (f : ℕ → ℕ) (g : ℕ) → g < n → s g ≡ true → f g + sum_below n (λ k. cond (without s g k) (f k) 0) ≡ sum_below n (λ k. cond (s k) (f k) 0)
unfolding sum_below without
sum_without zero s f g h e = absurd (not-suc-le-zero h)
sum_without (suc n) s f g h e = go (same? g n) (sum_without n s f g)
  where
    go : {b : Bool} → Same g n b → (g < n → s g ≡ true → f g + sum_below n (λ k. cond (without s g k) (f k) 0) ≡ sum_below n (λ k. cond (s k) (f k) 0))
        → f g + (sum_below n (λ k. cond (s k && not (eqb k g)) (f k) 0) + cond (s n && not (eqb n g)) (f n) 0) ≡ sum_below n (λ k. cond (s k) (f k) 0) + cond (s n) (f n) 0
    go (same q) ih =
        let lower : sum_below n (λ k. cond (s k && not (eqb k g)) (f k) 0) ≡ sum_below n (λ k. cond (s k) (f k) 0) = sum_ext n _ _ (λ k l. rw (ne_eqb k g (λ z. omega arith)) (ap (λ (b : Bool). cond b (f k) 0) (and-true (s k)))) in
        let gone : cond (s n && not (eqb n g)) (f n) 0 ≡ 0 = rw (q, eqb_same n) (ap (λ (b : Bool). cond b (f n) 0) (and-false (s n))) in
        let there : cond (s n) (f n) 0 ≡ f g = rw q (ap (λ (b : Bool). cond b (f n) 0) (rw q at e)) in
        omega (arith, lower, gone, there)
    go (other q) ih =
        let stays : cond (s n && not (eqb n g)) (f n) 0 ≡ cond (s n) (f n) 0 = rw (ne_eqb n g (λ z. q (sym z))) (ap (λ (b : Bool). cond b (f n) 0) (and-true (s n))) in
        let rest : f g + sum_below n (λ k. cond (s k && not (eqb k g)) (f k) 0) ≡ sum_below n (λ k. cond (s k) (f k) 0) = ih (omega arith) e in
        omega (arith, stays, rest)
