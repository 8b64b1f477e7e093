-- The bytes of a fresh window: zeros, but for the number of entries. Assumes nothing.
use mathlib.Core.Path.{◌≡◌, refl, sym, ◌∙◌, ap}
use mathlib.Core.Bool.{true}
use mathlib.Core.List.{List, [], ◌∷◌, ◌++◌}
use Prim.Native.Nat.{ℕ, suc, ◌/◌, ◌%◌}
use native.Mathlib.Omega.{arith}
use lib.Dec.{eqb}
use lib.ListN.{length, get_or, replicate, length-replicate, replicate-append-replicate}
use borrow.Author.Tests.{eqb-true, ne_eqb}
use Rattle.rules.specs.Base.{all}
use Rattle.rules.specs.Window.{fresh}
use Rattle.rules.proofs.ListLaws.{all_get_d}
use Rattle.layout.specs.Codec.{window_size, byte, head_byte, value_byte, change_byte, waiter_bytes, line_byte, lock_byte, permit_bytes, permit_byte, tie_bytes, tie_byte, record_bytes, log_byte, figures, lay, encode}
use Rattle.layout.proofs.CodecLaws.{byte_zero, pack_none}
use Rattle.layout.proofs.SectionLaws.{Section, section, sections, lay_out, total, encode_sections}
use Rattle.layout.proofs.RecordLaws.{table_zeros}
use Rattle.layout.proofs.LentLaws.{head_laid, FigureStored, figure_stored}
use Rattle.cells.specs.Part.{patch}
use Rattle.cells.proofs.PartLaws.{patch_whole}

-- sections of zeros
abbrev AllZero : List Section → Type 0
AllZero [] = Unit {0}
AllZero (s ∷ l) = ((i : ℕ) → s.content i ≡ 0) × AllZero l

lay_out_zero : (l : List Section) → AllZero l → lay_out l ≡ replicate (total l) 0
unfolding lay_out
lay_out_zero [] z = refl
lay_out_zero (s ∷ l) z = (λ j. table_zeros s.size s.content z.0 j ++ lay_out_zero l z.1 j) ∙ replicate-append-replicate s.size (total l) 0

-- nothing in any place
none : (l : List ℕ) → all (λ x. eqb x 0) l ≡ true → (i : ℕ) → get_or l i 0 ≡ 0
none l h i = eqb-true (get_or l i 0) 0 (all_get_d (λ x. eqb x 0) l i 0 h refl)

no_figure : (k : ℕ) → get_or (figures (fresh 0)) k 0 ≡ 0
unfolding figures fresh all
no_figure k = none (figures (fresh 0)) refl k

-- a window of no entries is all zeros
no_entries : AllZero (sections (figures (fresh 0)) (fresh 0))
unfolding sections section fresh head_byte value_byte change_byte line_byte waiter_bytes lock_byte permit_byte permit_bytes tie_byte tie_bytes log_byte record_bytes
no_entries = (
  λ i. rw (no_figure (i / 2)) (byte_zero (i % 2)),
  (
    λ i. byte_zero (i % 4),
    (
      λ i. unfold all in none (0 ∷ 0 ∷ []) refl (i % 4),
      (
        λ i. unfold all in none (0 ∷ 0 ∷ 0 ∷ 0 ∷ []) refl (i % 4),
        (
          λ i. pack_none 8 _ (λ b l. ne_eqb 0 (suc (i % 64 / 32)) (λ e. omega arith)),
          (
            λ i. unfold all in none (0 ∷ 0 ∷ 0 ∷ 0 ∷ []) refl (i % 4),
            (
              λ i. unfold all in none (0 ∷ 0 ∷ 0 ∷ 0 ∷ []) refl (i % 4),
              (
                λ i. unfold all byte in none (0 ∷ 0 ∷ byte 0 0 ∷ byte 1 0 ∷ byte 2 0 ∷ byte 3 0 ∷ []) refl (i % 6),
                tt,
              ),
            ),
          ),
        ),
      ),
    ),
  ),
)

blank : (n : ℕ) → n ≡ window_size → replicate n 0 ≡ encode (fresh 0)
unfolding sections section
blank n e = ap (λ k. replicate k 0) e ∙ sym (encode_sections (fresh 0) ∙ lay_out_zero (sections (figures (fresh 0)) (fresh 0)) no_entries)

-- cleared, and the number of entries stored
pub made-fresh : (bs : List ℕ) → length bs ≡ window_size → (n : ℕ) (cleared head : List ℕ) → cleared ≡ patch bs 0 (replicate window_size 0)
    → FigureStored cleared 0 n head → head_laid cleared head ≡ encode (fresh n)
unfolding encode lay figures fresh
made-fresh bs size n cleared head e f = figure_stored (fresh 0) (fresh n) whole 0 n (omega arith) f refl
  where
    whole : cleared ≡ encode (fresh 0)
    whole = e ∙ patch_whole bs (replicate window_size 0) (omega (arith, length-replicate {A = ℕ} window_size 0)) ∙ blank window_size refl
