-- The header: figures in their ranges, and zeros. Assumes nothing.
use mathlib.Core.Path.{◌≡◌, sym, ◌∙◌, ap}
use mathlib.Core.Bool.{Bool, true}
use mathlib.Core.List.{List, [], ◌∷◌}
use Prim.Native.Nat.{ℕ, zero, suc, ◌+◌, ◌-◌, ◌*◌, ◌/◌, ◌%◌, ◌≤◌, ◌<◌}
use native.Mathlib.Omega.{arith}
use lib.ListN.{get_or, length, get_or-eq_default}
use Rattle.rules.specs.Base.{all_below, table}
use Rattle.rules.proofs.BaseLaws.{Below, under, over, below}
use Rattle.layout.specs.Codec.{byte, head_byte, head_section}
use Rattle.layout.proofs.CodecLaws.{byte_zero}
use Rattle.layout.proofs.RecordLaws.{first_byte, by_cells}
use Rattle.layout.proofs.SectionLaws.{Bytes, length-table, get_or_table0}
use Rattle.cells.specs.Part.{part, byte_is}
use Rattle.cells.specs.Num.{le, num}
use Rattle.cells.proofs.NumLaws.{le-byte, part2}
use Rattle.cells.proofs.ZeroLaws.{zeros_at, zeros_all}
use Rattle.places.proofs.TableLaws.{head_places}
use Rattle.sections.specs.Sections.{HeadSound}

-- figure k of the header
abbrev figure_at : List ℕ → ℕ → ℕ
figure_at bs k = num (part bs (k * 2) 2)

module _ (bs : List ℕ) (size : length bs ≡ 64) where
  figure_bytes_lem : Bytes bs → (k j : ℕ) → k < 32 → j < 2 → get_or (le 2 (figure_at bs k)) j 0 ≡ get_or bs (k * 2 + j) 0
  unfolding le num
  figure_bytes_lem b k zero h t = rw (part2 bs (k * 2) (omega arith)) (omega (arith, b (k * 2), first_byte (λ i. get_or bs i 0) (k * 2)))
  figure_bytes_lem b k (suc zero) h t = rw (part2 bs (k * 2) (omega arith)) (omega (arith, b (k * 2), b (k * 2 + 1)))
  figure_bytes_lem b k (suc (suc j)) h t = absurd (omega arith)

  -- six figures and zeros
  head_bytes : Bytes bs → all_below (64 - 12) (byte_is bs 12 0) ≡ true → bs ≡ head_section (table 6 0 (figure_at bs))
  head_bytes b z = by_cells 2 32 (omega arith) bs (λ k. le 2 (get_or (table 6 0 (figure_at bs)) k 0)) size (λ k j h t. sym (go k j h t (below k 6))) ∙ sym (head_places (table 6 0 (figure_at bs)))
    where
      go : (k j : ℕ) → k < 32 → j < 2 → {p : Bool} → Below k 6 p → get_or (le 2 (get_or (table 6 0 (figure_at bs)) k 0)) j 0 ≡ get_or bs (k * 2 + j) 0
      go k j h t (under l) = rw (get_or_table0 6 (figure_at bs) k 0 l) (figure_bytes_lem b k j h t)
      go k j h t (over l) = rw (get_or-eq_default (table 6 0 (figure_at bs)) 0 {n = k} (rw length-table l)) (le-byte 2 j 0 t ∙ byte_zero j ∙ sym (zeros_at bs 12 64 z (k * 2 + j) (omega arith) (omega arith)))

pub head_zeros : (bs : List ℕ) → HeadSound bs → all_below (64 - 12) (byte_is bs 12 0) ≡ true
unfolding head_section head_byte
head_zeros bs s = zeros_all bs 12 64 (λ i h t. ap (λ l. get_or l i 0) s.bytes ∙ get_or_table0 64 (head_byte (s.entries ∷ s.given ∷ s.records ∷ s.permits ∷ s.ties ∷ s.waiters ∷ [])) i 0 t
    ∙ ap (byte (i % 2)) (get_or-eq_default (s.entries ∷ s.given ∷ s.records ∷ s.permits ∷ s.ties ∷ s.waiters ∷ []) 0 {n = i / 2} (omega arith)) ∙ byte_zero (i % 2))

-- the header of six figures in their ranges
pub head_sound : (bs : List ℕ) (size : length bs ≡ 64) → Bytes bs → all_below (64 - 12) (byte_is bs 12 0) ≡ true
    → 1 ≤ figure_at bs 0 → figure_at bs 0 ≤ 256 → figure_at bs 1 ≤ 255 → figure_at bs 2 ≤ 2048 → figure_at bs 3 ≤ 1024 → figure_at bs 4 ≤ 512 → figure_at bs 5 ≤ 255 → HeadSound bs
unfolding table
head_sound bs size b z o e g l p t w = record {
  entries = figure_at bs 0;
  given = figure_at bs 1;
  records = figure_at bs 2;
  permits = figure_at bs 3;
  ties = figure_at bs 4;
  waiters = figure_at bs 5;
  bytes = head_bytes bs size b z;
  some = o;
  entries_most = e;
  given_most = g;
  records_most = l;
  permits_most = p;
  ties_most = t;
  waiters_most = w;
}
