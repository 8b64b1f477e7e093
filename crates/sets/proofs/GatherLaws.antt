-- A test of 256 numbers, eight to a byte, gathered by `|` over 32 bytes: what was gathered is 0 where none passes. Assumes nothing.
use mathlib.Core.Path.{◌≡◌, sym, ap, ◌∙◌}
use mathlib.Core.Bool.{Bool, not, ◌||◌, false≢true}
use Prim.Native.Nat.{ℕ, ◌+◌, ◌*◌, ◌/◌, ◌%◌, ◌<◌}
use native.Mathlib.Numerals.{add-one}
use native.Mathlib.Omega.{arith}
use borrow.Author.Tests.{eq-eqb, eqb-true, not-true}
use lib.Dec.{eqb}
use Rattle.rules.specs.Base.{any_below}
use Rattle.rules.specs.Sets.{Set}
use Rattle.rules.proofs.BaseLaws.{both_ways, any_intro, any_below_none, none_below}
use Rattle.layout.specs.Codec.{unpack}
use Rattle.cells.proofs.Digits.{unpack_zero, unpack_ext}

-- byte j has the tests of j * 8, j * 8 + 1, …: the one in its bit b
unfoldable pub bit_of : Set → ℕ → ℕ → Bool
bit_of p b j = p (j * 8 + b)

-- acc is gathered from the first n bytes
pub record Gathered (p : Set) (n acc : ℕ) : Type 0 where
  pub small : acc < 256
  pub bits : (b : ℕ) → b < 8 → unpack acc b ≡ any_below n (bit_of p b)

module _ (p : Set) where
  pub gathered_none : Gathered p 0 0
  unfolding any_below
  gathered_none = record { small = omega arith; bits = λ b h. unpack_zero b }

  -- one byte more
  pub gathered_more : (n acc acc' : ℕ) → acc' < 256 → ((b : ℕ) → b < 8 → unpack acc' b ≡ unpack acc b || p (n * 8 + b)) → Gathered p n acc → Gathered p (n + 1) acc'
  unfolding any_below bit_of
  gathered_more n acc acc' h e g = record { small = h; bits = λ b l. e b l ∙ rw (add-one n, g.bits b l) }

  -- all of them
  pub gathered_all : (acc : ℕ) → Gathered p 32 acc → eqb acc 0 ≡ not (any_below 256 p)
  unfolding bit_of
  gathered_all acc g = both_ways _ _
      (λ z. ap not (none_below 256 p (λ k h t.
      let here : k / 8 * 8 + k % 8 ≡ k = omega arith in
      false≢true (sym (unpack_zero (k % 8)) ∙ ap (λ (x : ℕ). unpack x (k % 8)) (sym (eqb-true acc 0 z)) ∙ g.bits (k % 8) (omega arith) ∙ any_intro 32 (bit_of p (k % 8)) (k / 8) (omega arith) (rw here t)))))
      (λ q. eq-eqb acc 0 (unpack_ext 8 acc 0 g.small (omega arith) (λ b h.
      g.bits b h ∙ none_below 32 (bit_of p b) (λ j l t. false≢true (sym (any_below_none 256 p (not-true _ q) (j * 8 + b) (omega arith)) ∙ t)) ∙ sym (unpack_zero b))))
