-- A part of a section of permits, and the order of entries. Assumes nothing.
use mathlib.Core.Path.{◌≡◌, ◌∙◌, ap}
use mathlib.Core.Bool.{true}
use mathlib.Core.List.{List, []}
use Prim.Native.Nat.{ℕ, ◌*◌, ◌/◌, ◌≤◌, ◌<◌}
use native.Mathlib.Decide.{dec_lt}
use native.Mathlib.Omega.{arith}
use lib.ListN.{length, get_or, take, drop}
use Rattle.rules.specs.Base.{rising}
use Rattle.rules.specs.Window.{PermitRecord, permit_key}
use Rattle.rules.proofs.SortLaws.{Before, by1, by2, by3, rising_at}
use Rattle.std.proofs.lemmas.List.{get_or-take, get_or-drop, length-take-le}
use Rattle.std.specs.Simd.{first_chunks}
use Rattle.layout.specs.Codec.{no_permit, permit_section}
use Rattle.layout.specs.Records.{permit_at}
use Rattle.layout.proofs.ReadLaws.{permit_read}
use Rattle.few_permits.specs.Rows.{permit_row}
use Rattle.few_permits.proofs.RowLaws.{permit_is}
use Rattle.clashes.specs.Permits.{permit_from}

-- A PART OF ROWS: its permits are those from a place on
pub part_permit : (rows : List (List ℕ)) (from n j : ℕ) → j < n → permit_row (take n (drop from rows)) j ≡ permit_from (permit_row rows) from j
unfolding permit_row permit_from
part_permit rows from n j h = ap (λ row. permit_at row 0) (get_or-take n (drop from rows) j [] h ∙ get_or-drop from rows j [])

-- THE ROWS OF A SECTION
pub section_rows : (ps : List PermitRecord) (bs : List ℕ) (n : ℕ) (rows : List (List ℕ)) → bs ≡ permit_section ps → length ps ≡ n → n ≤ 1024 → length bs ≡ 4096 → length rows ≡ length (take (n * 4) bs) / 4 → rows ≡ first_chunks 4 (length (take (n * 4) bs) / 4) (take (n * 4) bs)
    → (length rows ≡ n) × ((j : ℕ) → j < length ps → permit_row rows j ≡ get_or ps j no_permit)
section_rows ps bs n rows section few most long len cut =
    let four : length (take (n * 4) bs) ≡ n * 4 = length-take-le (n * 4) bs (omega arith) in
    let quarter : length (take (n * 4) bs) / 4 ≡ n = omega arith in
    let own : rows ≡ first_chunks 4 n (take (n * 4) bs) = rw quarter at cut in
    (len ∙ quarter, λ j h. ap (λ q. permit_row q j) own ∙ permit_is n bs j (omega arith) ∙ rw section (permit_read ps j (omega arith)))

-- IN ORDER
-- the entries of permits in order do not fall
pub entries_rise : (ps : List PermitRecord) → rising permit_key ps ≡ true → (i j : ℕ) → i ≤ j → j < length ps → (get_or ps i no_permit).entry ≤ (get_or ps j no_permit).entry
unfolding permit_key
entries_rise ps e i j h m = go (dec_lt i j)
  where
    go : Dec (i < j) → (get_or ps i no_permit).entry ≤ (get_or ps j no_permit).entry
    go (no n) = let q : i ≡ j = omega arith in rw q (omega arith)
    go (yes l) = at (rising_at permit_key no_permit ps e i j l m)
      where
        at : Before (permit_key (get_or ps i no_permit)) (permit_key (get_or ps j no_permit)) → (get_or ps i no_permit).entry ≤ (get_or ps j no_permit).entry
        at (by1 q) = omega arith
        at (by2 q r) = omega arith
        at (by3 q r s) = omega arith
