-- Rows added one after the other, the last first: what a hand-over of permits comes to. Assumes nothing.
use mathlib.Core.Path.{◌≡◌, refl, sym, ap, ◌∙◌}
use mathlib.Core.Bool.{true}
use mathlib.Core.List.{List, map, foldr}
use Prim.Native.Nat.{ℕ, suc, ◌+◌, ◌-◌, ◌*◌, ◌≤◌, ◌<◌}
use native.Mathlib.Nat.{sub_self}
use native.Mathlib.Omega.{arith}
use lib.ListN.{length, length-map}
use Rattle.rules.specs.Base.{table, rising}
use Rattle.rules.proofs.SortLaws.{length-insert, inserts_rising, length_inserts}
use Rattle.layout.proofs.SectionLaws.{length-table}
use Rattle.rows.specs.Rows.{Row, row_key, row_at, rows, unite_rows, add_row, unless_over, Stored}
use Rattle.rows.proofs.RowLaws.{length-rows, rows_same, stored-rows, stored-over}
use Rattle.rows.proofs.AddLaws.{unless_not}
use Rattle.permits.specs.PermitRows.{with_giver}

-- a row united keeps its key
keys : (x y : Row) → row_key (unite_rows x y) ≡ row_key y
unfolding row_key unite_rows
keys x y = refl

-- the rows of `base` with those of `moved` from place i on, of m, given by `to`
unfoldable pub given : List Row → List ℕ → ℕ → ℕ → ℕ → List Row
given base moved m to i = foldr add_row base (map (with_giver to) (table (m - i) i (row_at moved)))

module _ (base : List Row) (moved : List ℕ) (m to : ℕ) where
  -- from place 0 on, all are given
  pub given-all : given base moved m to 0 ≡ foldr add_row base (map (with_giver to) (rows m moved))
  unfolding given rows
  given-all = let e : m - 0 ≡ m = omega arith in rw e

  -- from place m on, none is
  given_none : given base moved m to m ≡ base
  unfolding given table
  given_none = rw (sub_self m)

  -- one place lower, one more is
  given-next : (i : ℕ) → i < m → given base moved m to i ≡ add_row (with_giver to (row_at moved i)) (given base moved m to (i + 1))
  unfolding given table
  given-next i h = let e : m - i ≡ suc (m - (i + 1)) = omega arith in let f : i + 1 ≡ suc i = omega arith in rw (e, f)

  -- each adds one row at most
  length-given : (i : ℕ) → length (given base moved m to i) ≤ m - i + length base
  unfolding given add_row
  length-given i =
      omega (arith, (length_inserts row_key unite_rows (map (with_giver to) (table (m - i) i (row_at moved))) base).1, length-map (table (m - i) i (row_at moved)) (with_giver to), length-table (m - i) i (row_at moved))

  -- and the order is kept
  given-rising : rising row_key base ≡ true → (i : ℕ) → rising row_key (given base moved m to i) ≡ true
  unfolding given add_row
  given-rising r i = inserts_rising row_key unite_rows keys (map (with_giver to) (table (m - i) i (row_at moved))) base r

-- THE LOOP THAT GIVES THEM, from s₀ with n rows
module _ (s₀ : List ℕ) (n : ℕ) (moved : List ℕ) (m to : ℕ) where
  pub give_none : 4 * n ≤ length s₀ → Stored (given (rows n s₀) moved m to m) s₀ n s₀
  give_none h = rw (given_none (rows n s₀) moved m to) (record { count = sym (length-rows n s₀); bytes = sym (rows_same s₀ n h) })

  module _ (s : List ℕ) (count i : ℕ) (now : Stored (given (rows n s₀) moved m to (i + 1)) s₀ count s) where
    -- the rows are in order before a turn
    pub give_rising : rising row_key (rows n s₀) ≡ true → rising row_key (rows count s) ≡ true
    give_rising rise = ap (rising row_key) (stored-rows (given (rows n s₀) moved m to (i + 1)) s₀ count s now) ∙ given-rising (rows n s₀) moved m to rise (i + 1)

    -- and one more is given by it
    pub give_next : (most : ℕ) → n + m ≤ most → i < m → (r : ℕ) (after : List ℕ)
        → Stored (unless_over most (add_row (with_giver to (row_at moved i)) (rows count s)) (rows count s)) s r after → Stored (given (rows n s₀) moved m to i) s₀ r after
    give_next most fits h r after st =
        stored-over (given (rows n s₀) moved m to (i + 1)) (given (rows n s₀) moved m to i) s₀ count s r after longer now (rw is at st)
      where
        x : Row
        x = with_giver to (row_at moved i)

        next : add_row x (rows count s) ≡ given (rows n s₀) moved m to i
        next = ap (add_row x) (stored-rows (given (rows n s₀) moved m to (i + 1)) s₀ count s now) ∙ sym (given-next (rows n s₀) moved m to i h)

        longer : length (given (rows n s₀) moved m to (i + 1)) ≤ length (given (rows n s₀) moved m to i)
        longer = rw (given-next (rows n s₀) moved m to i h) (unfold add_row in (length-insert row_key unite_rows x (given (rows n s₀) moved m to (i + 1))).0)

        is : unless_over most (add_row x (rows count s)) (rows count s) ≡ given (rows n s₀) moved m to i
        is = unless_not most (add_row x (rows count s)) (rows count s) (rw next (omega (arith, length-given (rows n s₀) moved m to i, length-rows n s₀))) ∙ next
