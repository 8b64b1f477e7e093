-- Sets as masks: one taken out, one more, the free ones, all below a bound. Assumes nothing.
use mathlib.Core.Path.{◌≡◌, refl, sym, ap, ◌∙◌}
use mathlib.Core.Bool.{Bool, true, not, ◌&&◌, ◌||◌, and-true, and-false, false≢true}
use Prim.Native.Nat.{ℕ, zero, suc, ◌+◌, ◌*◌, ◌/◌, ◌%◌, ◌^◌, ◌≤◌, ◌<◌}
use native.Mathlib.Nat.{lt_of_le_of_lt, one-mul, mod-eq_of_lt}
use native.Mathlib.Omega.{arith}
use borrow.Author.Tests.{eqb-true}
use lib.Bits.{bit_and, bit_xor, differ, and_le_r, xor_step, xor_shr, xor_add_and}
use lib.Dec.{eqb, lit<, eqb-zero-suc, eqb-suc-zero, eqb-suc-suc}
use lib.Pow.{pow_pos, pow_mono, pow-lt}
use Rattle.rules.specs.Base.{count_below}
use Rattle.rules.specs.Orders.{without}
use Rattle.rules.proofs.BaseLaws.{Same, same, other, same?}
use Rattle.rules.proofs.BoundLaws.{count_none}
use Rattle.layout.specs.Codec.{unpack}
use Rattle.cells.proofs.Digits.{Digit, none, one, digit, unpack_and, unpack-first, unpack-next, unpack_ext, unpack_zero, unpack-one}
use Rattle.words.proofs.BitLaws.{word_minus}
use Rattle.orders.specs.Ways.{lowered, free_of}

-- `1 << n`
pub shifted_one : (n : ℕ) → n < 64 → (1 * 2 ^ n) % 2 ^ 64 ≡ 2 ^ n
shifted_one n h = ap (λ (x : ℕ). x % 2 ^ 64) (one-mul (2 ^ n)) ∙ mod-eq_of_lt (pow-lt h)

-- `^` takes away what is there
taken_digit : {p q : ℕ} → Digit p → Digit q → (eqb q 1 ≡ true → eqb p 1 ≡ true) → eqb (differ p q) 1 ≡ eqb p 1 && not (eqb q 1)
taken_digit none none h = refl
taken_digit none one h = absurd (false≢true (h refl))
taken_digit one none h = refl
taken_digit one one h = refl

taken_bits : (a b k : ℕ) → (unpack b k ≡ true → unpack a k ≡ true) → unpack (bit_xor a b) k ≡ unpack a k && not (unpack b k)
unfolding unpack
taken_bits a b k h = ap (λ (x : ℕ). eqb (x % 2) 1) (xor_shr a b k) ∙ ap (λ (x : ℕ). eqb x 1) (odd (a / 2 ^ k) (b / 2 ^ k)) ∙ taken_digit (digit (a / 2 ^ k)) (digit (b / 2 ^ k)) h
  where
    small : {p q : ℕ} → Digit p → Digit q → differ p q < 2
    small none none = lit< tt
    small none one = lit< tt
    small one none = lit< tt
    small one one = lit< tt

    odd : (a b : ℕ) → bit_xor a b % 2 ≡ differ (a % 2) (b % 2)
    odd a b = omega (arith, xor_step a b, small (digit a) (digit b))

-- the mask without a member is that of the set without it
pub lowered_bits : (m g k : ℕ) → unpack m g ≡ true → k < 64 → unpack (lowered m g) k ≡ without (unpack m) g k
unfolding lowered without
lowered_bits m g k e h =
    taken_bits m ((1 * 2 ^ g) % 2 ^ 64) k (λ q. let s = eqb-true k g (sym (unpack-one g k h) ∙ q) in rw s e)
    ∙ ap (λ (b : Bool). unpack m k && not b) (unpack-one g k h)

-- and it is lower
pub lowered_less : (m g : ℕ) → g < 64 → unpack m g ≡ true → lowered m g < m
unfolding lowered
lowered_less m g h e = omega (arith, xor_add_and m b, there, shifted_one g h, pow_pos g)
  where
    b : ℕ
    b = (1 * 2 ^ g) % 2 ^ 64

    there : bit_and m b ≡ b
    there = unpack_ext 64 (bit_and m b) b (lt_of_le_of_lt (and_le_r m b) (omega arith)) (omega arith) (λ k l. unpack_and m b k ∙ ap (λ (x : Bool). unpack m k && x) (unpack-one g k l) ∙ go k (same? k g) ∙ sym (unpack-one g k l))
      where
        go : (k : ℕ) {x : Bool} → Same k g x → unpack m k && x ≡ x
        go k (same q) = rw q (and-true (unpack m g) ∙ e)
        go k (other q) = and-false (unpack m k)

-- those of one mask that are not in another
pub free_bits : (left blocked k : ℕ) → blocked < 2 ^ 64 → k < 64 → unpack (free_of left blocked) k ≡ unpack left k && not (unpack blocked k)
unfolding free_of
free_bits left blocked k h l = word_minus left blocked h k l

-- the mask with h above all its members
pub with_bits : (h r k : ℕ) → r < 2 ^ h → unpack (2 ^ h + r) k ≡ eqb k h || unpack r k
with_bits zero r zero l = let e : r ≡ 0 = omega arith in rw e (unpack-first 1)
with_bits zero r (suc k) l = let e : r ≡ 0 = omega arith in rw e (unpack-next 1 k ∙ unpack_zero k ∙ sym (ap (λ (b : Bool). b || unpack 0 (suc k)) (eqb-suc-zero k) ∙ unpack_zero (suc k)))
with_bits (suc h) r zero l =
    let e : (2 ^ suc h + r) % 2 ≡ r % 2 = omega arith in
    unpack-first (2 ^ suc h + r) ∙ ap (λ (x : ℕ). eqb x 1) e ∙ sym (unpack-first r) ∙ sym (ap (λ (b : Bool). b || unpack r 0) (eqb-zero-suc h))
with_bits (suc h) r (suc k) l =
    let e : (2 ^ suc h + r) / 2 ≡ 2 ^ h + r / 2 = omega arith in
    unpack-next (2 ^ suc h + r) k ∙ ap (λ (x : ℕ). unpack x k) e ∙ with_bits h (r / 2) k (omega arith)
    ∙ sym (ap (λ (b : Bool). b || unpack r (suc k)) (eqb-suc-suc k h) ∙ ap (λ (b : Bool). eqb k h || b) (unpack-next r k))

-- a mask of the first n that is not 0 has one of them
pub some_left : (n left : ℕ) → 0 < left → left < 2 ^ n → 0 < count_below n (unpack left)
some_left n left some fits = go (same? (count_below n (unpack left)) 0)
  where
    go : {b : Bool} → Same (count_below n (unpack left)) 0 b → 0 < count_below n (unpack left)
    go (same q) = let e : left ≡ 0 = unpack_ext n left 0 fits (omega arith) (λ k l. count_none n (unpack left) q k l ∙ sym (unpack_zero k)) in absurd (omega arith)
    go (other q) = omega arith

-- 12 groups have 4,096 sets
pub sets_most : (n : ℕ) → n ≤ 12 → 2 ^ n ≤ 4096
sets_most n h = pow_mono h

-- the masks below it
pub in_sets : (n left : ℕ) → n ≤ 12 → left < (1 * 2 ^ n) % 2 ^ 64 → (left < 2 ^ n) × (left < 4096)
in_sets n left few h = let e = shifted_one n (omega arith) in let m = sets_most n few in (omega arith, omega arith)
