-- Numbers in decimal, digit by digit from the right, and as the library prints them. Assumes nothing.
use mathlib.Core.Path.{◌≡◌, refl, sym, ap, ◌∙◌}
use mathlib.Core.List.{List, [], ◌∷◌, ◌++◌, append_assoc, append-nil}
use Prim.Native.Nat.{ℕ, zero, suc, ◌+◌, ◌/◌, ◌%◌, ◌^◌, ◌≤◌, ◌<◌}
use native.Mathlib.Nat.{zero-lt-suc}
use native.Mathlib.Omega.{arith}
use Rattle.std.specs.Fmt.{decimal}
use Rattle.std.proofs.lemmas.Fmt.{decimal_by_steps}
use borrow.Author.Tests.{ne_eqb}
use Rattle.text.specs.Decimal.{digits_before, shown_before}

-- DIGITS FROM THE RIGHT: 0 has none
digits_none : (k : ℕ) (after : List ℕ) → digits_before k 0 after ≡ after
unfolding digits_before
digits_none zero after = refl
digits_none (suc k) after = refl

-- any other number has a last one
digits_more : (k n : ℕ) (after : List ℕ) → 0 < n → digits_before (suc k) n after ≡ digits_before k (n / 10) ((48 + n % 10) ∷ after)
unfolding digits_before
digits_more k n after h = rw (ne_eqb n 0 (λ e. omega arith))

-- what holds of a text with no digit in front, and is kept by each, holds of the text with all of them in front
module _ (P : ℕ → List ℕ → List ℕ → Type 0) (none : (after : List ℕ) → P 0 after after)
    (more : (n : ℕ) (after l : List ℕ) → 0 < n → P (n / 10) ((48 + n % 10) ∷ after) l → P n after l) where
  pub by_digits : (k n : ℕ) (after : List ℕ) → n ≤ k → P n after (digits_before k n after)
  by_digits zero n after h = let z : n ≡ 0 = omega arith in rw (z, digits_none 0 after) (none after)
  by_digits (suc k) n after h = go n h (by_digits k (n / 10) ((48 + n % 10) ∷ after))
    where
      go : (m : ℕ) → m ≤ suc k → (m / 10 ≤ k → P (m / 10) ((48 + m % 10) ∷ after) (digits_before k (m / 10) ((48 + m % 10) ∷ after)))
          → P m after (digits_before (suc k) m after)
      go zero b f = rw (digits_none (suc k) after) (none after)
      go (suc m) b f =
          more (suc m) after (digits_before (suc k) (suc m) after) (zero-lt-suc m) (rw (digits_more k (suc m) after (zero-lt-suc m)) (f (omega arith)))

-- n digits are enough for n: how many more there may be plays no part
digits_enough : (k n : ℕ) (after : List ℕ) → n ≤ k → (j : ℕ) → n ≤ j → digits_before k n after ≡ digits_before j n after
digits_enough = by_digits (λ n after l. (j : ℕ) → n ≤ j → l ≡ digits_before j n after) (λ after j h. sym (digits_none j after)) one
  where
    one : (n : ℕ) (after l : List ℕ) → 0 < n → ((j : ℕ) → n / 10 ≤ j → l ≡ digits_before j (n / 10) ((48 + n % 10) ∷ after))
        → (j : ℕ) → n ≤ j → l ≡ digits_before j n after
    one n after l h e zero b = absurd (omega arith)
    one n after l h e (suc j) b = e j (omega arith) ∙ sym (digits_more j n after h)

-- the last digit of what is left
digits_step : (n : ℕ) (after : List ℕ) → 0 < n → digits_before n n after ≡ digits_before (n / 10) (n / 10) ((48 + n % 10) ∷ after)
digits_step zero after h = absurd (omega arith)
digits_step (suc k) after h =
    digits_more k (suc k) after h ∙ digits_enough k (suc k / 10) ((48 + suc k % 10) ∷ after) (omega arith) (suc k / 10) (omega arith)

-- the first one printed
shown-step : (n : ℕ) (after : List ℕ) → shown_before n after ≡ digits_before (n / 10) (n / 10) ((48 + n % 10) ∷ after)
unfolding shown_before
shown-step n after = digits_enough n (n / 10) ((48 + n % 10) ∷ after) (omega arith) (n / 10) (omega arith)

-- WHAT THE CODE PRINTS, in front of other bytes: the library's text of the number
shown_one : (n : ℕ) → n < 10 → (after : List ℕ) → ((48 + n) ∷ []) ++ after ≡ shown_before n after
unfolding shown_before
shown_one n h after = let z : n / 10 ≡ 0 = omega arith in let m : n % 10 ≡ n = omega arith in rw (z, m, digits_none n ((48 + n) ∷ after))

shown_more : (n : ℕ) (l : List ℕ) → 10 ≤ n → ((after : List ℕ) → l ++ after ≡ shown_before (n / 10) after) → (after : List ℕ) → (l ++ ((48 + n % 10) ∷ [])) ++ after ≡ shown_before n after
shown_more n l h e after =
    append_assoc l ((48 + n % 10) ∷ []) after ∙ e ((48 + n % 10) ∷ after) ∙ shown-step (n / 10) ((48 + n % 10) ∷ after)
    ∙ sym (digits_step (n / 10) ((48 + n % 10) ∷ after) (omega arith)) ∙ sym (shown-step n after)

decimal_shown : (n : ℕ) → n < 2 ^ 64 → (after : List ℕ) → decimal n ++ after ≡ shown_before n after
decimal_shown = decimal_by_steps (λ n l. (after : List ℕ) → l ++ after ≡ shown_before n after) shown_one shown_more

pub shown-decimal : (n : ℕ) → n < 2 ^ 64 → decimal n ≡ shown_before n []
shown-decimal n h = sym (append-nil (decimal n)) ∙ decimal_shown n h []

-- a number in front of other bytes is its text, and then they
pub shown-append : (n : ℕ) → n < 2 ^ 64 → (after : List ℕ) → shown_before n [] ++ after ≡ shown_before n after
shown-append n h after = ap (λ (l : List ℕ). l ++ after) (sym (shown-decimal n h)) ∙ decimal_shown n h after
