-- Rows cut from a section: what stands in one. Assumes nothing.
use mathlib.Core.Path.{◌≡◌, ap, ◌∙◌}
use mathlib.Core.List.{List}
use Prim.Native.Nat.{ℕ, zero, suc, ◌+◌, ◌*◌, ◌/◌, ◌≤◌, ◌<◌}
use native.Mathlib.Omega.{arith}
use lib.ListN.{length, get_or, take, drop}
use Rattle.std.proofs.lemmas.List.{get_or-take, get_or-drop, length-take-le}
use Rattle.std.specs.Simd.{first_chunks}

-- how many rows there are
length-rows : (w n : ℕ) (bs : List ℕ) → length (first_chunks w n bs) ≡ n
length-rows w zero bs = omega arith
length-rows w (suc n) bs = ap suc (length-rows w n (drop w bs))

-- byte i of row j, where n rows of w bytes are cut from a section
row_read : (w n j i : ℕ) (bs d : List ℕ) → j < n → i < w → get_or (get_or (first_chunks w n bs) j d) i 0 ≡ get_or bs (j * w + i) 0
row_read w zero j i bs d h l = absurd (omega arith)
row_read w (suc n) zero i bs d h l = get_or-take w bs i 0 l ∙ ap (λ (k : ℕ). get_or bs k 0) (omega arith)
row_read w (suc n) (suc j) i bs d h l = row_read w n j i (drop w bs) d (omega arith) l ∙ get_or-drop w bs (j * w + i) 0 ∙ ap (λ (k : ℕ). get_or bs k 0) (omega arith)

-- THE FIRST n ROWS OF FOUR BYTES
module _ (n : ℕ) (bs : List ℕ) (rows : List (List ℕ)) (room : 4 * n ≤ length bs) (cut : rows ≡ first_chunks 4 (length (take (n * 4) bs) / 4) (take (n * 4) bs)) where
  front : rows ≡ first_chunks 4 n (take (n * 4) bs)
  front =
      let long : length (take (n * 4) bs) ≡ n * 4 = length-take-le (n * 4) bs (omega arith) in
      let count : length (take (n * 4) bs) / 4 ≡ n = omega arith in
      rw count at cut

  pub rows-count : length rows ≡ n
  rows-count = ap length front ∙ length-rows 4 n (take (n * 4) bs)

  -- byte i of row j, which stands at place k
  pub row_byte : (j i k : ℕ) (d : List ℕ) → j < length rows → i < 4 → j * 4 + i ≡ k → get_or (get_or rows j d) i 0 ≡ get_or bs k 0
  row_byte j i k d h l e =
      ap (λ (r : List (List ℕ)). get_or (get_or r j d) i 0) front ∙ row_read 4 n j i (take (n * 4) bs) d (rw rows-count at h) l
      ∙ get_or-take (n * 4) bs (j * 4 + i) 0 (omega (arith, rows-count)) ∙ ap (λ (m : ℕ). get_or bs m 0) e
