-- The binary digits of a number, lowest first, as `unpack` reads them: of 0 and of a power, of the operators on words, of the place of the lowest. Assumes nothing.
use mathlib.Core.Path.{◌≡◌, refl, sym, ap, ◌∙◌}
use mathlib.Core.Bool.{true, false, not, ◌&&◌, ◌||◌, true≢false, false≢true}
use Prim.Native.Nat.{ℕ, zero, suc, ◌+◌, ◌-◌, ◌*◌, ◌/◌, ◌%◌, ◌^◌, ◌≤◌, ◌<◌, min, max}
use native.Mathlib.Nat.{div-div-eq-div-mul, div-one, pow-succ', mod-lt, zero-lt-suc, div-eq_of_lt, one-mul}
use native.Mathlib.Omega.{arith}
use lib.Dec.{eqb, eqb-zero-suc, eqb-suc-zero, eqb-suc-suc}
use lib.Pow.{pow_mono, shl-shr, shr-shr, field, mod-mod-pow}
use lib.Bits.{bit_and, bit_or, and_step, or_step, and_shr, or_shr, shifted_half, shifted_even}
use lib.Count.{count_trailing_zeros, under}
use Rattle.layout.specs.Codec.{bit, unpack}

-- a remainder by 2 is 0 or 1
pub data Digit : ℕ → Type 0 where
  none : Digit zero
  one : Digit (suc zero)

-- so is that of any number
pub digit : (w : ℕ) → Digit (w % 2)
digit w = go (w % 2) (mod-lt w (zero-lt-suc 1))
  where
    go : (d : ℕ) → d < 2 → Digit d
    go zero h = none
    go (suc zero) h = one
    go (suc (suc d)) h = absurd (omega arith)

-- it is the bit that tells whether it is 1
pub digit_bit : {d : ℕ} → Digit d → d ≡ bit (eqb d 1)
digit_bit none = refl
digit_bit one = refl

-- the lowest digit, and those above it
pub unpack-first : (w : ℕ) → unpack w 0 ≡ eqb (w % 2) 1
unfolding unpack
unpack-first w = ap (λ (x : ℕ). eqb (x % 2) 1) (div-one w)

-- a digit above the lowest is one of the half
pub unpack-next : (w k : ℕ) → unpack w (suc k) ≡ unpack (w / 2) k
unfolding unpack
unpack-next w k = ap (λ (x : ℕ). eqb (x % 2) 1) (ap (λ (x : ℕ). w / x) (pow-succ' 2 k) ∙ sym (div-div-eq-div-mul w 2 (2 ^ k)))

-- a number of n digits has none from n on
pub unpack_above : (w n k : ℕ) → w < 2 ^ n → n ≤ k → unpack w k ≡ false
unfolding unpack
unpack_above w n k h l =
    let q : w < 2 ^ k = omega (arith, pow_mono l) in
    ap (λ (x : ℕ). eqb (x % 2) 1) (div-eq_of_lt q)

-- 0 has none
pub unpack_zero : (k : ℕ) → unpack 0 k ≡ false
unpack_zero k = unpack_above 0 0 k (omega arith) (omega arith)

-- a power of 2 has one
unpack_power : (j k : ℕ) → unpack (2 ^ j) k ≡ eqb k j
unpack_power zero zero = unpack-first 1
unpack_power zero (suc k) = unpack-next 1 k ∙ unpack_zero k ∙ sym (eqb-suc-zero k)
unpack_power (suc j) zero =
    let e : 2 ^ suc j % 2 ≡ 0 = omega arith in unpack-first (2 ^ suc j) ∙ ap (λ (x : ℕ). eqb x 1) e ∙ sym (eqb-zero-suc j)
unpack_power (suc j) (suc k) =
    let e : 2 ^ suc j / 2 ≡ 2 ^ j = omega arith in
    unpack-next (2 ^ suc j) k ∙ ap (λ (x : ℕ). unpack x k) e ∙ unpack_power j k ∙ sym (eqb-suc-suc k j)

-- `|` and `&`
or_digit : {p q : ℕ} → Digit p → Digit q → eqb (max p q) 1 ≡ eqb p 1 || eqb q 1
or_digit none none = refl
or_digit none one = refl
or_digit one none = refl
or_digit one one = refl

and_digit : {p q : ℕ} → Digit p → Digit q → eqb (min p q) 1 ≡ eqb p 1 && eqb q 1
and_digit none none = refl
and_digit none one = refl
and_digit one none = refl
and_digit one one = refl

or_odd : (a b : ℕ) → bit_or a b % 2 ≡ max (a % 2) (b % 2)
or_odd a b = omega (arith, or_step a b)

and_odd : (a b : ℕ) → bit_and a b % 2 ≡ min (a % 2) (b % 2)
and_odd a b = omega (arith, and_step a b)

-- a digit of `|`
pub unpack_or : (a b k : ℕ) → unpack (bit_or a b) k ≡ unpack a k || unpack b k
unfolding unpack
unpack_or a b k =
    ap (λ (x : ℕ). eqb (x % 2) 1) (or_shr a b k) ∙ ap (λ (x : ℕ). eqb x 1) (or_odd (a / 2 ^ k) (b / 2 ^ k)) ∙ or_digit (digit (a / 2 ^ k)) (digit (b / 2 ^ k))

-- a digit of `&`
pub unpack_and : (a b k : ℕ) → unpack (bit_and a b) k ≡ unpack a k && unpack b k
unfolding unpack
unpack_and a b k =
    ap (λ (x : ℕ). eqb (x % 2) 1) (and_shr a b k) ∙ ap (λ (x : ℕ). eqb x 1) (and_odd (a / 2 ^ k) (b / 2 ^ k)) ∙ and_digit (digit (a / 2 ^ k)) (digit (b / 2 ^ k))

-- `!`, of a number of n digits
not_digit : {p : ℕ} → Digit p → eqb (1 - p) 1 ≡ not (eqb p 1)
not_digit none = refl
not_digit one = refl

-- a digit of `!`
pub unpack_not : (n a k : ℕ) → a < 2 ^ n → k < n → unpack (2 ^ n - 1 - a) k ≡ not (unpack a k)
unpack_not zero a k h l = absurd (omega arith)
unpack_not (suc n) a zero h l =
    let e : (2 ^ suc n - 1 - a) % 2 ≡ 1 - a % 2 = omega arith in
    unpack-first (2 ^ suc n - 1 - a) ∙ ap (λ (x : ℕ). eqb x 1) e ∙ not_digit (digit a) ∙ ap not (sym (unpack-first a))
unpack_not (suc n) a (suc k) h l =
    let e : (2 ^ suc n - 1 - a) / 2 ≡ 2 ^ n - 1 - a / 2 = omega arith in
    unpack-next (2 ^ suc n - 1 - a) k ∙ ap (λ (x : ℕ). unpack x k) e ∙ unpack_not n (a / 2) k (omega arith) (omega arith) ∙ ap not (sym (unpack-next a k))

-- a digit is known by whether it is 1
same_digit : {p q : ℕ} → Digit p → Digit q → eqb p 1 ≡ eqb q 1 → p ≡ q
same_digit none none e = refl
same_digit none one e = absurd (false≢true e)
same_digit one none e = absurd (true≢false e)
same_digit one one e = refl

-- numbers with the same digits are equal
pub unpack_ext : (n a b : ℕ) → a < 2 ^ n → b < 2 ^ n → ((k : ℕ) → k < n → unpack a k ≡ unpack b k) → a ≡ b
unpack_ext zero a b ha hb h = omega arith
unpack_ext (suc n) a b ha hb h =
    let low : a % 2 ≡ b % 2 = same_digit (digit a) (digit b) (sym (unpack-first a) ∙ h 0 (omega arith) ∙ unpack-first b) in
    let high : a / 2 ≡ b / 2 = unpack_ext n (a / 2) (b / 2) (omega arith) (omega arith) (λ k l. sym (unpack-next a k) ∙ h (suc k) (omega arith) ∙ unpack-next b k) in
    omega arith

-- what `%` by a power cuts off plays no part below
pub unpack_mod : (n x k : ℕ) → k < n → unpack (x % 2 ^ n) k ≡ unpack x k
unfolding unpack
unpack_mod n x k l =
    let e : n - k + k ≡ n = omega arith in
    let f : n - k - 1 + 1 ≡ n - k = omega arith in
    ap (λ (y : ℕ). eqb (y % 2) 1) (rw e at (field x (n - k) k)) ∙ ap (λ (y : ℕ). eqb y 1) (rw f at (mod-mod-pow (x / 2 ^ k) (n - k - 1) 1))

-- `1 << t` has digit t alone
pub unpack-one : (t k : ℕ) → k < 64 → unpack ((1 * 2 ^ t) % 2 ^ 64) k ≡ eqb k t
unpack-one t k l = unpack_mod 64 (1 * 2 ^ t) k l ∙ ap (λ (x : ℕ). unpack x k) (one-mul (2 ^ t)) ∙ unpack_power t k

-- `>>` moves the digits down
pub unpack_shr : (s w k : ℕ) → unpack (w / 2 ^ s) k ≡ unpack w (s + k)
unfolding unpack
unpack_shr s w k = ap (λ (x : ℕ). eqb (x % 2) 1) (shr-shr w s k)

-- `<<` moves them up
pub unpack_shl : (s w k : ℕ) → unpack (w * 2 ^ s) (s + k) ≡ unpack w k
unpack_shl s w k = sym (unpack_shr s (w * 2 ^ s) k) ∙ ap (λ (x : ℕ). unpack x k) (shl-shr w s)

-- and leaves none below
pub unpack_shl_low : (s w k : ℕ) → k < s → unpack (w * 2 ^ s) k ≡ false
unpack_shl_low zero w k l = absurd (omega arith)
unpack_shl_low (suc s) w zero l = unpack-first (w * 2 ^ suc s) ∙ ap (λ (x : ℕ). eqb x 1) (shifted_even w s)
unpack_shl_low (suc s) w (suc k) l =
    unpack-next (w * 2 ^ suc s) k ∙ ap (λ (x : ℕ). unpack x k) (shifted_half w s) ∙ unpack_shl_low s w k (omega arith)

-- `trailing_zeros`: the lowest digit that is set, and none before it
hit_step : (n w d : ℕ) → Digit d → w % 2 ≡ d → w < 2 ^ suc n → 0 < w
    → (w / 2 < 2 ^ n → 0 < w / 2 → (count_trailing_zeros n (w / 2) < n) × (unpack (w / 2) (count_trailing_zeros n (w / 2)) ≡ true))
    → (under d (count_trailing_zeros n (w / 2)) < suc n) × (unpack w (under d (count_trailing_zeros n (w / 2))) ≡ true)
hit_step n w d none e h p ih =
    let r = ih (omega arith) (omega arith) in (omega (arith, r.0), unpack-next w (count_trailing_zeros n (w / 2)) ∙ r.1)
hit_step n w d one e h p ih = (omega arith, unpack-first w ∙ ap (λ (x : ℕ). eqb x 1) e)

-- the digit at the place found is set
pub trailing_hit : (n w : ℕ) → w < 2 ^ n → 0 < w → (count_trailing_zeros n w < n) × (unpack w (count_trailing_zeros n w) ≡ true)
unfolding count_trailing_zeros
trailing_hit zero w h p = absurd (omega arith)
trailing_hit (suc n) w h p = hit_step n w (w % 2) (digit w) refl h p (trailing_hit n (w / 2))

below_step : (n w d : ℕ) → Digit d → w % 2 ≡ d → ((j : ℕ) → j < count_trailing_zeros n (w / 2) → unpack (w / 2) j ≡ false)
    → (j : ℕ) → j < under d (count_trailing_zeros n (w / 2)) → unpack w j ≡ false
below_step n w d none e ih zero l = unpack-first w ∙ ap (λ (x : ℕ). eqb x 1) e
below_step n w d none e ih (suc j) l = unpack-next w j ∙ ih j (omega arith)
below_step n w d one e ih j l = absurd (omega arith)

-- and none below it is
pub trailing_below : (n w j : ℕ) → j < count_trailing_zeros n w → unpack w j ≡ false
unfolding count_trailing_zeros
trailing_below zero w j l = absurd (omega arith)
trailing_below (suc n) w j l = below_step n w (w % 2) (digit w) refl (trailing_below n (w / 2)) j l
