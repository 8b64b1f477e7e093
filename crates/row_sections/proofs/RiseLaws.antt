-- Rows walked in rising order: each is tested by itself, and its rank against a bound that is carried from row to row. Assumes nothing.
use mathlib.Core.Path.{◌≡◌, refl, sym, ◌∙◌}
use mathlib.Core.Bool.{Bool, true, false, not, ◌&&◌, and-false}
use mathlib.Core.List.{List}
use Prim.Native.Nat.{ℕ, ◌+◌, ◌-◌, ◌≤◌, ◌<◌}
use native.Mathlib.Numerals.{add-one}
use native.Mathlib.Omega.{arith}
use lib.Dec.{leb}
use borrow.Author.Tests.{lt-leb, not-true, not-false, le-leb, ne_eqb}
use Rattle.rules.specs.Base.{all_below}
use Rattle.layout.proofs.SectionLaws.{Bytes}
use Rattle.rules.proofs.TurnLaws.{none_yet, turn_failed, turn_passed}
use Rattle.rows.specs.Rows.{rank, row_at}
use Rattle.rows.proofs.OrderLaws.{small_at}
use Rattle.row_sections.specs.Fits.{is_in_order}

-- the rank of a row of bytes is of three bytes
pub rank_small : (bs : List ℕ) → Bytes bs → (j : ℕ) → rank (row_at bs j) < 16777216
unfolding rank
rank_small bs b j = let s = small_at bs b j in omega (arith, s.s1, s.s2, s.s3)

module _ (bs : List ℕ) (fits : ℕ → Bool) where
  -- j rows fit, and the next one is in order where its rank is `next` at least
  pub record Risen (next j : ℕ) : Type 0 where
    pub passed : all_below j fits ≡ true
    pub bound : is_in_order bs j ≡ leb next (rank (row_at bs j))

  pub none_risen : Risen 0 0
  unfolding is_in_order
  none_risen = record { passed = none_yet fits; bound = sym (le-leb 0 (rank (row_at bs 0)) (omega arith)) }

  -- row j fits where it passes a test of its own and is in order; r is what the code found of that test
  module _ (j : ℕ) (r own : Bool) (found : r ≡ own) (split : fits j ≡ own && is_in_order bs j) where
    -- it does not pass; it is too low; it fits
    pub row-fails : (n : ℕ) → j < n → not r ≡ true → false ≡ all_below n fits
    row-fails n h t = turn_failed n fits j false h (sym (split ∙ rw (sym found ∙ not-true r t))) refl

    pub row_low : (n next key : ℕ) → j < n → Risen next j → key ≡ rank (row_at bs j) → key < next → false ≡ all_below n fits
    row_low n next key h w k l = turn_failed n fits j false h (sym (split ∙ rw (w.bound, lt-leb next (rank (row_at bs j)) (omega arith)) (and-false own))) refl

    pub row_rises : (next key : ℕ) → Risen next j → not r ≡ false → key ≡ rank (row_at bs j) → next ≤ key → Risen (key + 1) (j + 1)
    unfolding is_in_order
    row_rises next key w t k l = record {
      passed = turn_passed j fits true w.passed (sym (split ∙ rw (sym found ∙ not-false r t, w.bound, le-leb next (rank (row_at bs j)) (omega arith)))) refl;
      bound = let here : j + 1 - 1 ≡ j = omega arith in rw (ne_eqb (j + 1) 0 (λ z. omega arith), here, k, add-one (rank (row_at bs j)));
    }
