-- Permits as rows of four bytes, and as the bytes that the rows are cut from. Assumes nothing.
use mathlib.Core.Path.{◌≡◌, refl, ap, fun_ext, ◌∙◌}
use mathlib.Core.Bool.{Bool, not, ◌&&◌, ◌||◌}
use mathlib.Core.List.{List, []}
use Prim.Native.Nat.{ℕ, zero, suc, ◌+◌, ◌*◌, ◌/◌, ◌≤◌, ◌<◌}
use native.Mathlib.Omega.{arith}
use lib.Dec.{eqb}
use lib.ListN.{length, get_or, take, drop}
use Rattle.std.proofs.lemmas.List.{get_or-take, get_or-drop, length-take-le, length-drop}
use Rattle.std.specs.Simd.{first_chunks}
use Rattle.rules.specs.Sets.{Set}
use Rattle.rules.specs.Window.{PermitRecord}
use Rattle.rules.specs.Locks.{blocking}
use Rattle.rules.specs.Base.{lowest_or_zero}
use Rattle.rules.proofs.BoundLaws.{all_ext}
use Rattle.layout.specs.Records.{permit_at}
use Rattle.beside.specs.Beside.{beside, holder, stands_beside, writer_blocker, entry_fits}
use Rattle.beside.proofs.PlaceLaws.{any_same}
use Rattle.few_permits.specs.Rows.{permit_row}

-- element i of row j, where rows of n elements are cut from a list
pub row_is : {X : Type 0} (n m : ℕ) (xs : List X) (j i : ℕ) (e : List X) (d : X) → j < m → i < n → get_or (get_or (first_chunks n m xs) j e) i d ≡ get_or xs (j * n + i) d
row_is n zero xs j i e d h l = absurd (omega arith)
row_is n (suc m) xs zero i e d h l = get_or-take n xs i d l ∙ ap (λ (k : ℕ). get_or xs k d) (omega arith)
row_is n (suc m) xs (suc j) i e d h l = row_is n m (drop n xs) j i e d (omega arith) l ∙ get_or-drop n xs (j * n + i) d ∙ ap (λ (k : ℕ). get_or xs k d) (omega arith)

-- a row has n elements
pub row_len : {X : Type 0} (n m : ℕ) (xs : List X) (j : ℕ) (e : List X) → m * n ≤ length xs → j < m → length (get_or (first_chunks n m xs) j e) ≡ n
row_len n zero xs j e w h = absurd (omega arith)
row_len n (suc m) xs zero e w h = length-take-le n xs (omega arith)
row_len n (suc m) xs (suc j) e w h = row_len n m (drop n xs) j e (omega (arith, length-drop n xs)) (omega arith)

-- the permit of row j is that of the bytes that n rows are cut from
pub permit_is : (n : ℕ) (bs : List ℕ) (j : ℕ) → j < n → permit_row (first_chunks 4 n (take (n * 4) bs)) j ≡ permit_at bs j
unfolding permit_row permit_at
permit_is n bs j h =
    let at : (i : ℕ) → i < 4 → (k : ℕ) → j * 4 + i ≡ k → get_or (get_or (first_chunks 4 n (take (n * 4) bs)) j []) i 0 ≡ get_or bs k 0
    = λ i l k e. row_is 4 n (take (n * 4) bs) j i [] 0 h l ∙ get_or-take (n * 4) bs (j * 4 + i) 0 (omega arith) ∙ ap (λ (m : ℕ). get_or bs m 0) e in
    rw (at 0 (omega arith) (j * 4) (omega arith), at 1 (omega arith) (j * 4 + 1) refl, at 2 (omega arith) (j * 4 + 2) refl, at 3 (omega arith) (j * 4 + 3) refl)
