-- Rows closed up in place: the law of records of any width, for four bytes. Assumes nothing.
use mathlib.Core.Path.{◌≡◌, refl, sym, ap, ap₂, ◌∙◌}
use mathlib.Core.Bool.{Bool}
use mathlib.Core.List.{List, ◌++◌, append_assoc}
use Prim.Native.Nat.{ℕ, ◌-◌, ◌*◌, ◌≤◌}
use native.Mathlib.Omega.{arith}
use lib.ListN.{length, drop, replicate, length-append, length-replicate}
use Rattle.rules.specs.Base.{keep}
use Rattle.rules.proofs.ListLaws.{length-keep}
use Rattle.cells.specs.Part.{patch}
use Rattle.rows.specs.Rows.{Row, row_bytes, rows_bytes, rows, Closed, Retained}
use Rattle.rows.proofs.RetainLaws.{retained_values}
use Rattle.rows.proofs.RowLaws.{length-rows, length-bytes, rows_bytes_lem, rows_rest}

-- no more than there were
pub closed-few : (q : Row → Bool) (n : ℕ) (l : List ℕ) (r : ℕ) (after : List ℕ) → Closed q n l r after → r ≤ n
closed-few q n l r after c = omega (arith, c.count, length-keep q (rows n l), length-rows n l)

-- and they are the first rows
pub closed-rows : (q : Row → Bool) (n : ℕ) (l : List ℕ) (r : ℕ) (after : List ℕ) → Closed q n l r after → rows r after ≡ keep q (rows n l)
unfolding patch
closed-rows q n l r after c =
    let z : List ℕ = replicate (4 * n - 4 * r) 0 in
    ap₂ rows c.count (c.bytes ∙ append_assoc (rows_bytes (keep q (rows n l))) z (drop (length (rows_bytes (keep q (rows n l)) ++ z)) l)) ∙ rows_bytes_lem (keep q (rows n l)) _

-- a row has four bytes
length-row : (r : Row) → length (row_bytes r) ≡ 4
unfolding row_bytes
length-row r = refl

-- what `rows::retain` leaves of rows, where its test answers what q says of each row, and does not change
pub retained_rows : {P : Type 0} (R : P → List ℕ → Bool → P → Type 0) (p₀ : P) (q : Row → Bool) → ((x : Row) (b : Bool) (p : P) → R p₀ (row_bytes x) b p → (b ≡ q x) × (p ≡ p₀))
    → (n : ℕ) (before : List ℕ) → 4 * n ≤ length before → (r : ℕ) (after : List ℕ) → Retained R p₀ 4 n before r after → Closed q n before r after
unfolding patch
retained_rows R p₀ q says n before room r after m =
    let kept : List Row = keep q (rows n before) in
    let z : List ℕ = replicate (4 * n - 4 * r) 0 in
    let e = retained_values R p₀ 4 row_bytes length-row q says (rows n before) (drop (4 * n) before) before (sym (rows_rest before n room)) n r after (length-rows n before) m in
    let few : length kept ≤ n = omega (arith, length-keep q (rows n before), length-rows n before) in
    let free : replicate (n * 4 - r * 4) 0 ≡ z = ap (λ (k : ℕ). replicate k 0) (omega arith) in
    let whole : length (rows_bytes kept ++ z) ≡ 4 * n = simp (length-append, length-bytes, length-replicate) (omega (arith, e.0, few)) in
    record {
      count = e.0;
      bytes = e.1 ∙ ap (λ (t : List ℕ). rows_bytes kept ++ (t ++ drop (4 * n) before)) free
          ∙ sym (ap (λ (k : ℕ). (rows_bytes kept ++ z) ++ drop k before) whole ∙ append_assoc (rows_bytes kept) z (drop (4 * n) before));
    }
