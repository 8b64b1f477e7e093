-- Keys and their ranks, and a row put behind, before or in place of another. Assumes nothing.
use mathlib.Core.Path.{◌≡◌, refl, sym, ap}
use mathlib.Core.Bool.{true}
use mathlib.Core.List.{List, ◌∷◌, ◌++◌}
use Prim.Native.Nat.{ℕ, zero, suc, ◌+◌, ◌*◌, ◌≤◌, ◌<◌, Ordering}
use native.Mathlib.Omega.{arith}
use Rattle.rules.specs.Base.{Key, by_order, table, insert, rising}
use Rattle.rules.proofs.SortLaws.{Before, by1, by2, by3, Ordered, below, equal, above, ordered, rising_at}
use Rattle.layout.proofs.SectionLaws.{Bytes, length-table, get_or_table0}
use Rattle.rows.specs.Rows.{Row, row, row_key, rank_of, rank, row_at, rows, unite_rows, add_row}

-- the three bytes of a row's key are below 256
pub record Small (r : Row) : Type 0 where
  pub s1 : r.k1 < 256
  pub s2 : r.k2 < 256
  pub s3 : r.k3 < 256

-- a row of bytes has a small key
pub small_at : (l : List ℕ) → Bytes l → (i : ℕ) → Small (row_at l i)
unfolding row_at
small_at l b i = record { s1 = b (4 * i); s2 = b (4 * i + 1); s3 = b (4 * i + 2) }

-- the order of keys is that of their ranks
pub rank-before : (a b : Row) → Small a → Small b → Before (row_key a) (row_key b) → rank a < rank b
unfolding rank row_key
rank-before a b s t (by1 h) = omega arith
rank-before a b s t (by2 e h) = omega arith
rank-before a b s t (by3 e f h) = omega arith

-- one key has one rank
rank_equal : (a b : Row) → row_key a ≡ row_key b → rank a ≡ rank b
unfolding rank row_key
rank_equal a b e = ap (λ (k : Key). rank_of k.k1 k.k2 k.k3) e

module _ (a b : Row) (s : Small a) (t : Small b) where
  -- and the ranks tell the order
  ranked : {o : Ordering} → Ordered (row_key a) (row_key b) o
      → (rank a < rank b → Before (row_key a) (row_key b) × (o ≡ Ordering.lt)) × (rank a ≡ rank b → o ≡ Ordering.eq) × (rank b < rank a → o ≡ Ordering.gt)
  ranked (below c) = let h = rank-before a b s t c in (λ l. (c, refl), λ e. absurd (omega arith), λ l. absurd (omega arith))
  ranked (equal q) = let h = rank_equal a b q in (λ l. absurd (omega arith), λ e. refl, λ l. absurd (omega arith))
  ranked (above c) = let h = rank-before b a t s c in (λ l. absurd (omega arith), λ e. absurd (omega arith), λ l. refl)

  -- a lower rank is a lower key
  pub before-rank : rank a < rank b → Before (row_key a) (row_key b)
  before-rank h = ((ranked (ordered (row_key a) (row_key b))).0 h).0

-- rows in rising order have rising ranks
pub ranks_rise : (l : List ℕ) (n : ℕ) → Bytes l → rising row_key (rows n l) ≡ true → (i j : ℕ) → i < j → j < n → rank (row_at l i) < rank (row_at l j)
unfolding rows
ranks_rise l n b e i j h k =
    let none : Row = row 0 0 0 0 in
    rank-before (row_at l i) (row_at l j) (small_at l b i) (small_at l b j)
    (rw (get_or_table0 n (row_at l) i none (omega arith), get_or_table0 n (row_at l) j none k) at (rising_at row_key none (table n 0 (row_at l)) e i j h (rw length-table k)))

-- a row put behind lower ones, before a higher one, in place of an equal one
module _ (f : ℕ → Row) (x : Row) (s : Small x) (t : (j : ℕ) → Small (f j)) where
  pub put_behind : (k i : ℕ) (rest : List Row) → ((j : ℕ) → i ≤ j → j < i + k → rank (f j) < rank x) → add_row x (table k i f ++ rest) ≡ table k i f ++ add_row x rest
  unfolding add_row insert by_order table
  put_behind zero i rest h = refl
  put_behind (suc k) i rest h =
      rw ((ranked x (f i) s (t i) (ordered (row_key x) (row_key (f i)))).2 (h i (omega arith) (omega arith)))
      (ap (λ (r : List Row). f i ∷ r) (put_behind k (suc i) rest (λ j a b. h j (omega arith) (omega arith))))

  -- before a higher row, or at the end
  pub put-before : (m i : ℕ) → (0 < m → rank x < rank (f i)) → add_row x (table m i f) ≡ x ∷ table m i f
  unfolding add_row insert by_order table
  put-before zero i h = refl
  put-before (suc m) i h = rw ((ranked x (f i) s (t i) (ordered (row_key x) (row_key (f i)))).0 (h (omega arith))).1

  -- in place of a row of its key
  pub put_same : (m i : ℕ) → rank (f i) ≡ rank x → add_row x (table (suc m) i f) ≡ unite_rows x (f i) ∷ table m (suc i) f
  unfolding add_row insert by_order table
  put_same m i h = rw ((ranked x (f i) s (t i) (ordered (row_key x) (row_key (f i)))).1 (sym h))
