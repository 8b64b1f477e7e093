-- A row stored among those of a section: the gap filled, or a row's last byte replaced. Assumes nothing.
use mathlib.Core.Path.{◌≡◌, refl, sym, ap, ap₂, ◌∙◌}
use mathlib.Core.List.{List, [], ◌∷◌, ◌++◌, append_assoc, flat_map}
use Prim.Native.Nat.{ℕ, suc, ◌+◌, ◌-◌, ◌*◌, ◌≤◌, ◌<◌}
use native.Mathlib.Omega.{arith}
use lib.ListN.{length, take, drop, set, length-append, length-drop}
use lib.Seq.{take_at, drop_at, set_at, drop-drop, length-take-le, take-append-add, drop-append-add}
use Rattle.rules.specs.Base.{table}
use Rattle.layout.proofs.SectionLaws.{length-table}
use Rattle.cells.specs.Part.{part, patch}
use Rattle.cells.proofs.CloseLaws.{flat_append}
use Rattle.rows.specs.Rows.{Row, row, row_bytes, rows_bytes, row_at}
use Rattle.rows.proofs.RowLaws.{length-bytes, pieces}

-- A ROW PUT IN
-- a gap made in the middle and filled
gap : (a b t xs : List ℕ) (at m k : ℕ) → length a ≡ at → length b ≡ m → length xs ≡ k → k ≤ length t
    → patch (patch (a ++ (b ++ t)) (at + k) (part (a ++ (b ++ t)) at m)) at xs ≡ a ++ (xs ++ (b ++ drop k t))
unfolding patch part
gap a b t xs at m k ea eb ex h =
    let l : List ℕ = a ++ (b ++ t) in
    let p : take m (drop at l) ≡ b = ap (take m) (drop_at a (b ++ t) at ea) ∙ take_at b t m eb in
    let f : take (at + k) l ≡ a ++ take k (b ++ t) = ap (λ (j : ℕ). take (j + k) l) (sym ea) ∙ take-append-add a (b ++ t) k in
    let c : k + length b ≡ length b + k = omega arith in
    let g : drop (length b) (drop (at + k) l) ≡ drop k t =
    ap (λ (j : ℕ). drop (length b) (drop (j + k) l)) (sym ea) ∙ ap (drop (length b)) (drop-append-add a (b ++ t) k)
    ∙ drop-drop (length b) k (b ++ t) ∙ ap (λ (j : ℕ). drop j (b ++ t)) c ∙ drop-append-add b t k in
    let long : length (take k (b ++ t)) ≡ k = length-take-le k (b ++ t) (simp length-append (omega arith)) in
    let made : take (at + k) l ++ (take m (drop at l) ++ drop (length (take m (drop at l))) (drop (at + k) l)) ≡ a ++ (take k (b ++ t) ++ (b ++ drop k t)) =
    ap (λ (y : List ℕ). take (at + k) l ++ (y ++ drop (length y) (drop (at + k) l))) p ∙ ap₂ (λ (y z : List ℕ). y ++ (b ++ z)) f g ∙ append_assoc a (take k (b ++ t)) (b ++ drop k t) in
    ap (λ (y : List ℕ). take at y ++ (xs ++ drop (length xs) (drop at y))) made
    ∙ ap₂ (λ (y z : List ℕ). y ++ (xs ++ drop (length xs) z)) (take_at a (take k (b ++ t) ++ (b ++ drop k t)) at ea) (drop_at a (take k (b ++ t) ++ (b ++ drop k t)) at ea)
    ∙ ap (λ (z : List ℕ). a ++ (xs ++ z)) (drop_at (take k (b ++ t)) (b ++ drop k t) (length xs) (long ∙ sym ex))

-- three pieces stored at the front
front : (a x b l : List ℕ) (m : ℕ) → length a + (length x + length b) ≡ m → patch l 0 (a ++ (x ++ b)) ≡ a ++ (x ++ (b ++ drop m l))
unfolding patch
front a x b l m e = let long : length (a ++ (x ++ b)) ≡ m = simp length-append e in rw long (simp append_assoc)

-- the rows from a place on move up by one, and a row is put there
pub put_in : (l : List ℕ) (n at : ℕ) (r : Row) → at ≤ n → 4 * n + 4 ≤ length l
    → patch (patch l (4 * at + 4) (part l (4 * at) (4 * n - 4 * at))) (4 * at) (row_bytes r) ≡ patch l 0 (rows_bytes (table at 0 (row_at l) ++ (r ∷ table (n - at) at (row_at l))))
unfolding flat_map row_bytes
put_in l n at r h room =
    let a : List ℕ = rows_bytes (table at 0 (row_at l)) in
    let b : List ℕ = rows_bytes (table (n - at) at (row_at l)) in
    let la : length a ≡ 4 * at = simp (length-bytes, length-table) in
    let lb : length b ≡ 4 * n - 4 * at = simp (length-bytes, length-table) (omega arith) in
    ap (λ (y : List ℕ). patch (patch y (4 * at + 4) (part y (4 * at) (4 * n - 4 * at))) (4 * at) (row_bytes r)) (pieces l n at h (omega arith))
    ∙ gap a b (drop (4 * n) l) (row_bytes r) (4 * at) (4 * n - 4 * at) 4 la lb refl (simp length-drop (omega arith))
    ∙ ap (λ (z : List ℕ). a ++ (row_bytes r ++ (b ++ z))) (drop-drop 4 (4 * n) l)
    ∙ sym (ap (patch l 0) (flat_append row_bytes (table at 0 (row_at l)) (r ∷ table (n - at) at (row_at l))) ∙ front a (row_bytes r) b l (4 * n + 4) (omega arith))

-- the last byte of a row is replaced
pub set_more : (l : List ℕ) (n at d : ℕ) → at < n → 4 * n ≤ length l
    → set l (4 * at + 3) d ≡ patch l 0 (rows_bytes (table at 0 (row_at l) ++ (row (row_at l at).k1 (row_at l at).k2 (row_at l at).k3 d ∷ table (n - suc at) (suc at) (row_at l))))
unfolding flat_map row_bytes table
set_more l n at d h room =
    let a : List ℕ = rows_bytes (table at 0 (row_at l)) in
    let b : List ℕ = rows_bytes (table (n - suc at) (suc at) (row_at l)) in
    let y : Row = row_at l at in
    let m : n - at ≡ suc (n - suc at) = omega arith in
    let la : length a ≡ 4 * at = simp (length-bytes, length-table) in
    let lb : length b ≡ 4 * n - 4 * suc at = simp (length-bytes, length-table) (omega arith) in
    let lk : length (a ++ (y.k1 ∷ y.k2 ∷ y.k3 ∷ [])) ≡ 4 * at + 3 = simp length-append (omega arith) in
    ap (λ (z : List ℕ). set z (4 * at + 3) d)
    (pieces l n at (omega arith) room ∙ ap (λ (k : ℕ). a ++ (rows_bytes (table k at (row_at l)) ++ drop (4 * n) l)) m ∙ sym (append_assoc a (y.k1 ∷ y.k2 ∷ y.k3 ∷ []) (y.more ∷ (b ++ drop (4 * n) l))))
    ∙ set_at (a ++ (y.k1 ∷ y.k2 ∷ y.k3 ∷ [])) y.more (b ++ drop (4 * n) l) d (4 * at + 3) lk
    ∙ append_assoc a (y.k1 ∷ y.k2 ∷ y.k3 ∷ []) (d ∷ (b ++ drop (4 * n) l))
    ∙ sym (ap (patch l 0) (flat_append row_bytes (table at 0 (row_at l)) (row y.k1 y.k2 y.k3 d ∷ table (n - suc at) (suc at) (row_at l)))
    ∙ front a (row_bytes (row y.k1 y.k2 y.k3 d)) b l (4 * n) (omega arith))
