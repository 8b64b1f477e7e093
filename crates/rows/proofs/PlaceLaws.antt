-- The place of a key among rows in order: what a row put there makes of them, and whether one of its key stands. Assumes nothing.
use mathlib.Core.Path.{◌≡◌, refl, sym, ap, ◌∙◌}
use mathlib.Core.Logic.{⊎_elim}
use mathlib.Core.Bool.{Bool, true, false, false≢true}
use mathlib.Core.List.{List, ◌∷◌, ◌++◌}
use Prim.Native.Nat.{ℕ, suc, ◌+◌, ◌-◌, ◌≤◌, ◌<◌}
use native.Mathlib.Nat.{eq-or-lt_of_le}
use native.Mathlib.Omega.{arith}
use lib.Dec.{ltb, eqb}
use lib.ListN.{length, length-append}
use borrow.Author.Tests.{lt-ltb, ltb-true, eq-eqb, eqb-true}
use Rattle.rules.specs.Base.{table}
use Rattle.rules.proofs.BaseLaws.{and_both, and_left, and_right}
use Rattle.layout.proofs.SectionLaws.{Bytes, length-table}
use Rattle.rows.specs.Rows.{Row, rank, row_at, rows, stands_at, KeyPlace, unite_rows, add_row}
use Rattle.rows.proofs.OrderLaws.{Small, small_at, put_behind, put-before, put_same}
use Rattle.rows.proofs.RowLaws.{rows_split}

-- what a row that stands at a place is
pub stands_below : (l : List ℕ) (n k at : ℕ) (t : Bool) → t ≡ stands_at l n k at → t ≡ true → at < n
unfolding stands_at
stands_below l n k at t e f = ltb-true at n (and_left (ltb at n) (eqb (rank (row_at l at)) k) (sym e ∙ f))

-- it has the key
stands_rank : (l : List ℕ) (n k at : ℕ) → stands_at l n k at ≡ true → rank (row_at l at) ≡ k
unfolding stands_at
stands_rank l n k at e = eqb-true (rank (row_at l at)) k (and_right (ltb at n) (eqb (rank (row_at l at)) k) e)

-- and nothing else is asked
stands_of : (l : List ℕ) (n k at : ℕ) → at < n → rank (row_at l at) ≡ k → stands_at l n k at ≡ true
unfolding stands_at
stands_of l n k at h e = and_both (ltb at n) (eqb (rank (row_at l at)) k) (lt-ltb at n h) (eq-eqb (rank (row_at l at)) k e)

-- where a row belongs among the first n
pub record Placed (l : List ℕ) (n : ℕ) (x : Row) (at : ℕ) : Type 0 where
  pub bytes : Bytes l
  pub small : Small x
  pub within : at ≤ n
  pub found : KeyPlace l n (rank x) at

module _ (l : List ℕ) (n : ℕ) (x : Row) (at : ℕ) (p : Placed l n x at) where
  -- the row comes behind those before its place
  behind : add_row x (rows n l) ≡ table at 0 (row_at l) ++ add_row x (table (n - at) at (row_at l))
  behind = ap (add_row x) (rows_split l n at p.within)
      ∙ put_behind (row_at l) x p.small (small_at l p.bytes) at 0 (table (n - at) at (row_at l)) (λ j h k. p.found.lower j (omega arith))

  -- no row has the key: the row comes between
  pub added_new : stands_at l n (rank x) at ≡ false → add_row x (rows n l) ≡ table at 0 (row_at l) ++ (x ∷ table (n - at) at (row_at l))
  added_new e =
      behind
      ∙ ap (λ (t : List Row). table at 0 (row_at l) ++ t) (put-before (row_at l) x p.small (small_at l p.bytes) (n - at) at higher)
    where
      higher : 0 < n - at → rank x < rank (row_at l at)
      higher h = ⊎_elim (λ q. absurd (false≢true (sym e ∙ stands_of l n (rank x) at (omega arith) (sym q)))) (λ q. q) (eq-or-lt_of_le (p.found.higher at (omega arith) (omega arith)))

  -- one row more
  pub length_new : stands_at l n (rank x) at ≡ false → length (add_row x (rows n l)) ≡ n + 1
  length_new e = ap length (added_new e) ∙ simp (length-append, length-table) (omega (arith, length-table (n - at) at (row_at l)))

  -- one has it: the row is united with it
  pub added_old : stands_at l n (rank x) at ≡ true → add_row x (rows n l) ≡ table at 0 (row_at l) ++ (unite_rows x (row_at l at) ∷ table (n - suc at) (suc at) (row_at l))
  added_old e =
      let h : at < n = stands_below l n (rank x) at true (sym e) refl in
      let m : n - at ≡ suc (n - suc at) = omega arith in
      behind
      ∙ ap (λ (k : ℕ). table at 0 (row_at l) ++ add_row x (table k at (row_at l))) m
      ∙ ap (λ (t : List Row). table at 0 (row_at l) ++ t) (put_same (row_at l) x p.small (small_at l p.bytes) (n - suc at) at (stands_rank l n (rank x) at e))

  -- as many as before
  pub length_old : stands_at l n (rank x) at ≡ true → length (add_row x (rows n l)) ≡ n
  length_old e = let h : at < n = stands_below l n (rank x) at true (sym e) refl in ap length (added_old e) ∙ simp (length-append, length-table) (omega (arith, length-table (n - suc at) (suc at) (row_at l)))
