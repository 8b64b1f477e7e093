-- Rows and their bytes, and a section with other rows at its front. Assumes nothing.
use mathlib.Core.Path.{◌≡◌, refl, sym, ap, ap₂, ◌∙◌}
use mathlib.Core.List.{List, [], ◌∷◌, ◌++◌, append_assoc, flat_map}
use Prim.Native.Nat.{ℕ, zero, suc, ◌+◌, ◌-◌, ◌*◌, ◌≤◌, ◌<◌}
use native.Mathlib.Omega.{arith}
use lib.ListN.{length, take, drop, get_or, replicate, length-append, length-replicate, take-append-drop, replicate-append-replicate}
use lib.Seq.{take-add, drop-drop, drop_at, drop-append-add, take_all}
use Rattle.rules.specs.Base.{table}
use Rattle.rules.proofs.ListLaws.{table-append}
use Rattle.layout.proofs.SectionLaws.{length-table, table_list}
use Rattle.cells.specs.Part.{part, patch}
use Rattle.cells.proofs.NumLaws.{part4}
use Rattle.cells.proofs.CloseLaws.{flat_append}
use Rattle.rows.specs.Rows.{Row, row, row_of, row_bytes, rows_bytes, row_at, rows, Stored}

-- how many
pub length-bytes : (rs : List Row) → length (rows_bytes rs) ≡ 4 * length rs
unfolding flat_map row_bytes
length-bytes [] = refl
length-bytes (r ∷ rs) = omega (arith, length-bytes rs)

-- n rows are n
pub length-rows : (n : ℕ) (l : List ℕ) → length (rows n l) ≡ n
unfolding rows
length-rows n l = length-table n 0 (row_at l)

-- the bytes of a row that stands in a section are a part of it
pub row-part : (l : List ℕ) (i : ℕ) → 4 * i + 4 ≤ length l → row_bytes (row_at l i) ≡ part l (4 * i) 4
unfolding row_bytes row_at
row-part l i h = sym (part4 l (4 * i) h)

-- four bytes are those of the row that they make
pub bytes_of : (x : List ℕ) → length x ≡ 4 → row_bytes (row_of x) ≡ x
unfolding row_bytes row_of part
bytes_of x e = sym (part4 x 0 (omega arith)) ∙ take_all 4 x (omega arith)

-- so are those of several
bytes-part : (l : List ℕ) (m i : ℕ) → 4 * i + 4 * m ≤ length l → rows_bytes (table m i (row_at l)) ≡ part l (4 * i) (4 * m)
unfolding flat_map table part
bytes-part l zero i h = refl
bytes-part l (suc m) i h =
    let e : 4 * suc m ≡ 4 + 4 * m = omega arith in
    let f : 4 * i + 4 ≡ 4 * suc i = omega arith in
    ap₂ (λ (a b : List ℕ). a ++ b) (row-part l i (omega arith)) (bytes-part l m (suc i) (omega arith))
    ∙ sym (ap (λ (k : ℕ). take k (drop (4 * i) l)) e ∙ take-add 4 (4 * m) (drop (4 * i) l) ∙ ap (λ (t : List ℕ). take 4 (drop (4 * i) l) ++ take (4 * m) t) (drop-drop 4 (4 * i) l ∙ ap (λ (k : ℕ). drop k l) f))

-- past a row at the front, the rows are those of the rest
row_past : (r : Row) (l : List ℕ) (j : ℕ) → row_at (row_bytes r ++ l) (suc j) ≡ row_at l j
unfolding row_bytes row_at
row_past r l j =
    let e : 4 * suc j ≡ suc (suc (suc (suc (4 * j)))) = omega arith in
    λ i. record { k1 = get_or (row_bytes r ++ l) (e i) 0; k2 = one 1 i; k3 = one 2 i; more = one 3 i }
  where
    one : (k : ℕ) → get_or (r.k1 ∷ r.k2 ∷ r.k3 ∷ r.more ∷ l) (4 * suc j + k) 0 ≡ get_or l (4 * j + k) 0
    one k = let e : 4 * suc j + k ≡ suc (suc (suc (suc (4 * j + k)))) = omega arith in rw e

-- rows whose bytes stand at the front are its first rows: each by its place
row_here : (rs : List Row) (t : List ℕ) (j : ℕ) → j < length rs → row_at (rows_bytes rs ++ t) j ≡ get_or rs j (row 0 0 0 0)
unfolding flat_map
row_here [] t j h = absurd (omega arith)
row_here (r ∷ rs) t zero h = unfold row_bytes row_at in refl
row_here (r ∷ rs) t (suc j) h = rw (append_assoc (row_bytes r) (rows_bytes rs) t) (row_past r (rows_bytes rs ++ t) j ∙ row_here rs t j (omega arith))

-- all of them
pub rows_bytes_lem : (rs : List Row) (t : List ℕ) → rows (length rs) (rows_bytes rs ++ t) ≡ rs
unfolding rows
rows_bytes_lem rs t = table_list (row 0 0 0 0) rs (row_at (rows_bytes rs ++ t)) refl (row_here rs t)

-- a section is the bytes of its first rows, and the rest
pub rows_rest : (l : List ℕ) (n : ℕ) → 4 * n ≤ length l → rows_bytes (rows n l) ++ drop (4 * n) l ≡ l
unfolding rows part
rows_rest l n h = ap (λ (t : List ℕ). t ++ drop (4 * n) l) (bytes-part l n 0 (omega arith)) ∙ take-append-drop (4 * n) l

-- so with its own first rows at its front it is the same
pub rows_same : (l : List ℕ) (n : ℕ) → 4 * n ≤ length l → patch l 0 (rows_bytes (rows n l)) ≡ l
unfolding patch
rows_same l n h = ap (λ (k : ℕ). rows_bytes (rows n l) ++ drop k l) (length-bytes (rows n l) ∙ ap (λ (k : ℕ). 4 * k) (length-rows n l)) ∙ rows_rest l n h

-- the first n rows in two pieces: those before a place, and those from there on
pub rows_split : (l : List ℕ) (n at : ℕ) → at ≤ n → rows n l ≡ table at 0 (row_at l) ++ table (n - at) at (row_at l)
unfolding rows
rows_split l n at h =
    let e : at + (n - at) ≡ n = omega arith in
    let z : 0 + at ≡ at = omega arith in
    ap (λ (k : ℕ). table k 0 (row_at l)) (sym e) ∙ table-append at (n - at) 0 (row_at l) ∙ ap (λ (k : ℕ). table at 0 (row_at l) ++ table (n - at) k (row_at l)) z

-- and the section in three: their bytes, and the rest
pub pieces : (l : List ℕ) (n at : ℕ) → at ≤ n → 4 * n ≤ length l → l ≡ rows_bytes (table at 0 (row_at l)) ++ (rows_bytes (table (n - at) at (row_at l)) ++ drop (4 * n) l)
pieces l n at h k =
    sym (rows_rest l n k)
    ∙ ap (λ (t : List ℕ). t ++ drop (4 * n) l) (ap rows_bytes (rows_split l n at h) ∙ flat_append row_bytes (table at 0 (row_at l)) (table (n - at) at (row_at l)))
    ∙ append_assoc (rows_bytes (table at 0 (row_at l))) (rows_bytes (table (n - at) at (row_at l))) (drop (4 * n) l)

-- zeros at the end of a section
pub patch_zeros : (xs ys : List ℕ) (k z : ℕ) → length xs ≤ length ys + z → length ys + z ≤ length xs + k
    → patch (xs ++ replicate k 0) 0 (ys ++ replicate z 0) ≡ ys ++ replicate (length xs + k - length ys) 0
patch_zeros xs ys k z h g = go (length ys + z - length xs) (length xs + k - (length ys + z)) (omega arith) (omega arith) (omega arith)
  where
    go : (m d : ℕ) → m + d ≡ k → z + d ≡ length xs + k - length ys → length xs + m ≡ length ys + z
        → patch (xs ++ replicate k 0) 0 (ys ++ replicate z 0) ≡ ys ++ replicate (length xs + k - length ys) 0
    go m d e f i = unfold patch in
        ap (λ (j : ℕ). (ys ++ replicate z 0) ++ drop (length (ys ++ replicate z 0)) (xs ++ replicate j 0)) (sym e)
        ∙ ap (λ (t : List ℕ). (ys ++ replicate z 0) ++ drop (length (ys ++ replicate z 0)) t) (ap (λ (t : List ℕ). xs ++ t) (sym (replicate-append-replicate m d 0)) ∙ sym (append_assoc xs (replicate m 0) (replicate d 0)))
        ∙ ap (λ (t : List ℕ). (ys ++ replicate z 0) ++ t) (drop_at (xs ++ replicate m 0) (replicate d 0) (length (ys ++ replicate z 0)) (simp (length-append, length-replicate) i))
        ∙ append_assoc ys (replicate z 0) (replicate d 0)
        ∙ ap (λ (t : List ℕ). ys ++ t) (replicate-append-replicate z d 0 ∙ ap (λ (j : ℕ). replicate j 0) f)

-- rows stored at the front are the first rows
pub stored-rows : (rs : List Row) (l : List ℕ) (r : ℕ) (after : List ℕ) → Stored rs l r after → rows r after ≡ rs
unfolding patch
stored-rows rs l r after s = ap₂ rows s.count s.bytes ∙ rows_bytes_lem rs (drop (length (rows_bytes rs)) l)

-- and are gone when as many or more are stored over them
pub stored-over : (rs qs : List Row) (l : List ℕ) (n : ℕ) (s : List ℕ) (r : ℕ) (after : List ℕ) → length rs ≤ length qs → Stored rs l n s → Stored qs s r after → Stored qs l r after
unfolding patch
stored-over rs qs l n s r after h a b =
    let x : List ℕ = rows_bytes rs in
    let y : List ℕ = rows_bytes qs in
    let e : length x + (length y - length x) ≡ length y = omega (arith, length-bytes rs, length-bytes qs) in
    record {
      count = b.count;
      bytes = b.bytes
          ∙ ap (λ (t : List ℕ). y ++ drop (length y) t) a.bytes
          ∙ ap (λ (k : ℕ). y ++ drop k (x ++ drop (length x) l)) (sym e)
          ∙ ap (λ (t : List ℕ). y ++ t) (drop-append-add x (drop (length x) l) (length y - length x) ∙ drop-drop (length y - length x) (length x) l ∙ ap (λ (k : ℕ). drop k l) e);
    }
