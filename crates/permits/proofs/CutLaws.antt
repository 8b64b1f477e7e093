-- The rows of a section as they are cut from its bytes. Assumes nothing.
use mathlib.Core.Path.{◌≡◌, refl, ap, ◌∙◌}
use mathlib.Core.List.{List, []}
use Prim.Native.Nat.{ℕ, zero, suc, ◌+◌, ◌-◌, ◌*◌, ◌/◌, ◌≤◌, ◌<◌}
use native.Mathlib.Omega.{arith}
use lib.ListN.{length, get_or, take, drop}
use Rattle.std.proofs.lemmas.List.{get_or-take, get_or-drop, length-take-le, length-drop}
use Rattle.std.specs.Simd.{first_chunks}
use Rattle.rows.specs.Rows.{row_of, row_at}

-- element i of row j, where rows of n elements are cut from a list
row_is : (n m : ℕ) (xs : List ℕ) (j i : ℕ) → j < m → i < n → get_or (get_or (first_chunks n m xs) j []) i 0 ≡ get_or xs (j * n + i) 0
row_is n zero xs j i h l = absurd (omega arith)
row_is n (suc m) xs zero i h l = get_or-take n xs i 0 l ∙ ap (λ (k : ℕ). get_or xs k 0) (omega arith)
row_is n (suc m) xs (suc j) i h l = row_is n m (drop n xs) j i (omega arith) l ∙ get_or-drop n xs (j * n + i) 0 ∙ ap (λ (k : ℕ). get_or xs k 0) (omega arith)

module _ (l : List ℕ) (cut : List (List ℕ)) (is : cut ≡ first_chunks 4 (length l / 4) l) where
  -- row i is the row of the section
  pub cut_row : (i : ℕ) → 4 * i + 4 ≤ length l → row_of (get_or cut i []) ≡ row_at l i
  unfolding row_of row_at
  cut_row i h = rw (cell 0 (omega arith) (4 * i) (omega arith), cell 1 (omega arith) (4 * i + 1) (omega arith), cell 2 (omega arith) (4 * i + 2) (omega arith), cell 3 (omega arith) (4 * i + 3) (omega arith)) refl
    where
      cell : (j : ℕ) → j < 4 → (k : ℕ) → i * 4 + j ≡ k → get_or (get_or cut i []) j 0 ≡ get_or l k 0
      cell j a k e = ap (λ (c : List (List ℕ)). get_or (get_or c i []) j 0) is ∙ row_is 4 (length l / 4) l i j (omega arith) a ∙ ap (λ (m : ℕ). get_or l m 0) e

  -- those of the first n from place `at` on
  module _ (n at : ℕ) (many : 4 * n ≤ length l) where
    abbrev from_place : List (List ℕ)
    from_place = take (n - at) (drop at cut)

    -- there are as many as there are rows to come
    pub to_come : length cut ≡ length l / 4 → at ≤ n → length from_place ≡ n - at
    to_come len h = length-take-le (n - at) (drop at cut) (omega (arith, length-drop at cut))

    -- row j of them
    pub from_row : (j : ℕ) → j < n - at → row_of (get_or from_place j []) ≡ row_at l (at + j)
    from_row j h = ap row_of (get_or-take (n - at) (drop at cut) j [] h ∙ get_or-drop at cut j []) ∙ cut_row (at + j) (omega arith)
