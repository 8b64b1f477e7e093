-- What is printed is read back as the same number; how long it is. Assumes nothing.
use mathlib.Core.Path.{◌≡◌, refl, sym, ap, ◌∙◌}
use mathlib.Core.Bool.{true, false, and-false}
use mathlib.Core.List.{List, [], ◌∷◌}
use Rattle.std.specs.Prelude.{Some}
use Prim.Native.Nat.{ℕ, zero, suc, ◌+◌, ◌-◌, ◌*◌, ◌/◌, ◌%◌, ◌^◌, ◌≤◌, ◌<◌}
use native.Mathlib.Nat.{pow-suc, pow-zero, div-lt_iff_lt-mul, zero-lt-suc}
use native.Mathlib.Omega.{arith}
use lib.ListN.{length}
use lib.Dec.{eqb}
use borrow.Author.Tests.{ne_eqb, le-leb}
use Rattle.rules.specs.Base.{all}
use Rattle.text.specs.Decimal.{is_digit, value_after, leading_zero, number, digits_before, shown_before}
use Rattle.text.proofs.DecimalLaws.{number-value}
use Rattle.text.proofs.ShownLaws.{by_digits}

-- digits say the number
digits_say : (k n : ℕ) (after : List ℕ) → n ≤ k → value_after 0 (digits_before k n after) ≡ value_after n after
unfolding value_after
digits_say =
    by_digits (λ n after l. value_after 0 l ≡ value_after n after) (λ after. refl)
    (λ n after l h e. let again : 10 * (n / 10) + (48 + n % 10 - 48) ≡ n = omega arith in e ∙ ap (λ (m : ℕ). value_after m after) again)

-- they are digits
one_digit : (n : ℕ) → is_digit (48 + n % 10) ≡ true
unfolding is_digit
one_digit n = rw (le-leb 48 (48 + n % 10) (omega arith), le-leb (48 + n % 10) 57 (omega arith))

digits_all : (k n : ℕ) (after : List ℕ) → n ≤ k → all is_digit (digits_before k n after) ≡ all is_digit after
unfolding all
digits_all = by_digits (λ n after l. all is_digit l ≡ all is_digit after) (λ after. refl) (λ n after l h e. e ∙ rw (one_digit n))

-- the first of them is not 0
digits_first : (k n : ℕ) (after : List ℕ) → n ≤ k → (n ≡ 0 → leading_zero after ≡ false) → leading_zero (digits_before k n after) ≡ false
unfolding leading_zero
digits_first =
    by_digits (λ n after l. (n ≡ 0 → leading_zero after ≡ false) → leading_zero l ≡ false) (λ after f. f refl)
    (λ n after l h e f. e (λ z. rw (ne_eqb (48 + n % 10) 48 (λ s. omega arith))))

-- how many there are
digits_count : (k n : ℕ) (after : List ℕ) → n ≤ k → (length after ≤ length (digits_before k n after)) × ((j : ℕ) → n < 10 ^ j → length (digits_before k n after) ≤ j + length after)
digits_count =
    by_digits (λ n after l. (length after ≤ length l) × ((j : ℕ) → n < 10 ^ j → length l ≤ j + length after))
    (λ after. (omega arith, λ j h. omega arith)) (λ n after l h e. (omega (arith, e.0), few n after l h e.1))
  where
    few : (n : ℕ) (after l : List ℕ) → 0 < n → ((j : ℕ) → n / 10 < 10 ^ j → length l ≤ j + length ((48 + n % 10) ∷ after)) → (j : ℕ) → n < 10 ^ j → length l ≤ j + length after
    few n after l h f zero b = absurd (omega (arith, rw pow-zero at b))
    few n after l h f (suc j) b = omega (arith, f j ((div-lt_iff_lt-mul (zero-lt-suc 9)).1 (rw pow-suc at b)))

-- HOW LONG a printed number is: below 10 ^ (j + 1), at most j + 1 digits
shown-length : (n j : ℕ) (after : List ℕ) → n < 10 ^ suc j → length (shown_before n after) ≤ suc j + length after
unfolding shown_before
shown-length n j after h =
    omega (arith, (digits_count n (n / 10) ((48 + n % 10) ∷ after) (omega arith)).1 j ((div-lt_iff_lt-mul (zero-lt-suc 9)).1 (rw pow-suc at h)))

-- at least one
shown-some : (n : ℕ) (after : List ℕ) → length after < length (shown_before n after)
unfolding shown_before
shown-some n after = (digits_count n (n / 10) ((48 + n % 10) ∷ after) (omega arith)).0

-- READ BACK
pub read_back : (n : ℕ) → n < 2 ^ 32 → number (shown_before n []) ≡ Some n
unfolding shown_before value_after all leading_zero
read_back n h =
    let d : List ℕ = (48 + n % 10) ∷ [] in
    let less : n / 10 ≤ n = omega arith in
    let value : value_after 0 (shown_before n []) ≡ n = digits_say n (n / 10) d less ∙ omega arith in
    let each : all is_digit (shown_before n []) ≡ true = digits_all n (n / 10) d less ∙ rw (one_digit n) refl in
    number-value (shown_before n []) n each (sym value) (shown-some n []) (shown-length n 9 [] (omega arith))
    (digits_first n (n / 10) d less (λ z. and-false (eqb (48 + n % 10) 48))) (omega arith)
