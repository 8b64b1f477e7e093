-- Numbers in decimal, as the code reads them. Assumes nothing.
use mathlib.Core.Path.{◌≡◌, refl, sym, ◌∙◌}
use mathlib.Core.Bool.{Bool, true, false, not, cond, ◌&&◌, false≢true, and-false}
use mathlib.Core.List.{List, [], ◌∷◌}
use Rattle.std.specs.Prelude.{Some, None}
use Prim.Native.Nat.{ℕ, ◌+◌, ◌-◌, ◌*◌, ◌^◌, ◌≤◌, ◌<◌}
use native.Mathlib.Nat.{pow-suc, pow-zero, pow-le-pow_right, zero-lt-suc}
use native.Mathlib.Numerals.{add-one}
use native.Mathlib.Omega.{arith}
use lib.ListN.{length, drop, get_or, drop_of_length-le}
use lib.Seq.{drop-cons}
use lib.Dec.{eqb, leb}
use borrow.Author.Tests.{eq-eqb, ne_eqb, le-leb, leb-true, not-true}
use Rattle.rules.specs.Base.{all}
use Rattle.rules.proofs.BaseLaws.{and_five, and_right, no_true}
use Rattle.text.specs.Decimal.{is_digit, value_after, leading_zero, is_number, number}

-- READING: i bytes of l have been read, all of them digits that say v
pub record Reading (l : List ℕ) (v i : ℕ) : Type 0 where
  pub digits : all is_digit (drop i l) ≡ all is_digit l
  pub value : value_after v (drop i l) ≡ value_after 0 l
  pub small : v < 10 ^ i

pub reading_none : (l : List ℕ) → Reading l 0 0
reading_none l = record { digits = refl; value = refl; small = rw pow-zero (omega arith) }

-- digits with one more to come are nine at most, so below 1,000,000,000
pub reading_room : {l : List ℕ} {v i : ℕ} → Reading l v i → i < length l → length l ≤ 10 → v < 1000000000
reading_room {l} {v} {i} r h k =
    let few : i ≤ 9 = omega arith in
    let ten : 10 ^ i ≤ 10 ^ 9 = pow-le-pow_right (zero-lt-suc 9) few in omega (arith, r.small)

-- a byte that is no digit
pub reading_other : {l : List ℕ} {v i : ℕ} → Reading l v i → i < length l → is_digit (get_or l i 0) ≡ false → all is_digit l ≡ false
unfolding all
reading_other {l} {v} {i} r h e = rw (← r.digits, drop-cons l i 0 h, e)

-- one digit more
pub reading_next : {l : List ℕ} {v i : ℕ} → Reading l v i → i < length l → is_digit (get_or l i 0) ≡ true → Reading l (10 * v + (get_or l i 0 - 48)) (i + 1)
unfolding all value_after is_digit
reading_next {l} {v} {i} r h e =
    let b : get_or l i 0 ≤ 57 = leb-true (get_or l i 0) 57 (and_right (leb 48 (get_or l i 0)) (leb (get_or l i 0) 57) e) in
    record {
      digits = sym (rw (add-one i, ← r.digits, drop-cons l i 0 h, e) refl);
      value = sym (rw (add-one i, ← r.value, drop-cons l i 0 h) refl);
      small = rw (add-one i, pow-suc) (omega (arith, r.small));
    }

-- all have been read
pub reading_all : {l : List ℕ} {v i : ℕ} → Reading l v i → length l ≤ i → (all is_digit l ≡ true) × (v ≡ value_after 0 l)
unfolding all value_after
reading_all {l} {v} {i} r h = let e : drop i l ≡ [] = drop_of_length-le l h in (sym r.digits ∙ rw e, rw e at r.value)

-- NO NUMBER
none_of : (l : List ℕ) → (is_number l ≡ true → ⊥) → number l ≡ None
unfolding number
none_of l f = rw (no_true (is_number l) f)

parts : (l : List ℕ) → is_number l ≡ true
    → (all is_digit l ≡ true) × (leb 1 (length l) ≡ true) × (leb (length l) 10 ≡ true) × (not (leading_zero l) ≡ true) × (leb (value_after 0 l) 4294967295 ≡ true)
unfolding is_number
parts l e = and_five (all is_digit l) (leb 1 (length l)) (leb (length l) 10) (not (leading_zero l)) (leb (value_after 0 l) 4294967295) e

-- no digit
pub number_empty : (l : List ℕ) → length l ≡ 0 → number l ≡ None
number_empty l h = none_of l (λ e. omega (arith, h, leb-true 1 (length l) (parts l e).1))

-- more than ten
pub number-long : (l : List ℕ) → 10 < length l → number l ≡ None
number-long l h = none_of l (λ e. omega (arith, h, leb-true (length l) 10 (parts l e).2))

leading : (l : List ℕ) → 1 < length l → get_or l 0 0 ≡ 48 → leading_zero l ≡ true
unfolding leading_zero
leading [] h e = absurd (omega (arith, h))
leading (x ∷ l) h e = rw (eq-eqb x 48 e, ne_eqb (length l) 0 (λ z. omega (arith, h)))

-- a leading zero
pub number_zero : (l : List ℕ) → 1 < length l → get_or l 0 0 ≡ 48 → number l ≡ None
number_zero l h z = none_of l (λ e. false≢true (sym (not-true (leading_zero l) (parts l e).3) ∙ leading l h z))

-- no leading zero
pub not_leading : (l : List ℕ) → (1 < length l → get_or l 0 0 ≡ 48 → ⊥) → leading_zero l ≡ false
unfolding leading_zero
not_leading [] f = refl
not_leading (x ∷ []) f = and-false (eqb x 48)
not_leading (x ∷ y ∷ l) f = rw (ne_eqb x 48 (f (omega arith)))

-- A NUMBER: what the digits say, where nothing else is wrong
pub number-digits : (l : List ℕ) → 1 ≤ length l → length l ≤ 10 → leading_zero l ≡ false
    → number l ≡ cond (all is_digit l && leb (value_after 0 l) 4294967295) (Some (value_after 0 l)) None
unfolding number is_number
number-digits l h k z = rw (le-leb 1 (length l) h, le-leb (length l) 10 k, z) (go (all is_digit l) (leb (value_after 0 l) 4294967295) (value_after 0 l))
  where
    go : (d b : Bool) (n : ℕ) → cond (d && true && true && true && b) (Some n) None ≡ cond (d && b) (Some n) None
    go true b n = refl
    go false b n = refl

pub number-value : (l : List ℕ) (v : ℕ) → all is_digit l ≡ true → v ≡ value_after 0 l → 1 ≤ length l → length l ≤ 10 → leading_zero l ≡ false
    → v ≤ 4294967295 → number l ≡ Some v
number-value l v d e h k z b = number-digits l h k z ∙ rw (d, ← e, le-leb v 4294967295 b)
