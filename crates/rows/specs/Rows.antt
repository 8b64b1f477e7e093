-- Rows of four bytes, the first three of which are their sort key: what the tables of permits and of ties are made of; places in line are rows too, in order of coming. Assumes nothing.
use Rattle.std.specs.Prelude.{◌≡◌, Bool, not, cond, ◌&&◌, ◌||◌, ℕ, ◌+◌, ◌-◌, ◌*◌, ◌≤◌, ◌<◌, ltb, eqb, length, get_or, drop, replicate}
use mathlib.Core.List.{List, [], ◌∷◌, ◌++◌, flat_map}
use Rattle.std.specs.List.{concat}
use Rattle.std.specs.List.Retain.{IsFiltered}
use Rattle.std.specs.Simd.{first_chunks}
use Rattle.rules.specs.Base.{Key, table, insert, exceeds, keep}
use Rattle.rules.specs.Sets.{Set}
use Rattle.rules.specs.Locks.{contains}
use Rattle.cells.specs.Part.{patch}

-- a row: the three bytes of its key, and one more
pub record Row : Type 0 where
  pub k1 : ℕ
  pub k2 : ℕ
  pub k3 : ℕ
  pub more : ℕ

-- by its bytes
abbrev pub row : ℕ → ℕ → ℕ → ℕ → Row
row a b c d = record { k1 = a; k2 = b; k3 = c; more = d }

-- its key, as the rules compare keys
unfoldable pub row_key : Row → Key
row_key r = record { k1 = r.k1; k2 = r.k2; k3 = r.k3 }

-- a key of three bytes as one number, in the same order
abbrev pub rank_of : ℕ → ℕ → ℕ → ℕ
rank_of a b c = a * 65536 + b * 256 + c

-- a row's
unfoldable pub rank : Row → ℕ
rank r = rank_of r.k1 r.k2 r.k3

-- that of a key's three bytes
abbrev pub key_rank : List ℕ → ℕ
key_rank k = rank_of (get_or k 0 0) (get_or k 1 0) (get_or k 2 0)

-- the row of four bytes
unfoldable pub row_of : List ℕ → Row
row_of x = row (get_or x 0 0) (get_or x 1 0) (get_or x 2 0) (get_or x 3 0)

-- the row of a key's three bytes and one more
abbrev pub with_key : List ℕ → ℕ → Row
with_key k more = row (get_or k 0 0) (get_or k 1 0) (get_or k 2 0) more

-- the bytes of a row
unfoldable pub row_bytes : Row → List ℕ
row_bytes r = r.k1 ∷ r.k2 ∷ r.k3 ∷ r.more ∷ []

-- those of rows, one after the other
abbrev pub rows_bytes : List Row → List ℕ
rows_bytes = flat_map row_bytes

-- the row at a place of a section
unfoldable pub row_at : List ℕ → ℕ → Row
row_at l i = row (get_or l (4 * i) 0) (get_or l (4 * i + 1) 0) (get_or l (4 * i + 2) 0) (get_or l (4 * i + 3) 0)

-- the first n
unfoldable pub rows : ℕ → List ℕ → List Row
rows n l = table n 0 (row_at l)

-- the place of a key of rank k among the first n rows
pub record KeyPlace (l : List ℕ) (n k at : ℕ) : Type 0 where
  -- the rows before it have lower keys
  pub lower : (j : ℕ) → j < at → rank (row_at l j) < k
  -- the rows from there on have not
  pub higher : (j : ℕ) → at ≤ j → j < n → k ≤ rank (row_at l j)

-- a row of that key stands at a place
unfoldable pub stands_at : List ℕ → ℕ → ℕ → ℕ → Bool
stands_at l n k at = ltb at n && eqb (rank (row_at l at)) k

-- a row united with the row of its key that stands: the last byte as operations are
unfoldable pub unite_rows : Row → Row → Row
unite_rows x y = row y.k1 y.k2 y.k3 (cond (contains y.more x.more) y.more 3)

-- a row put in its place among rows in order, or united with the row of its key
unfoldable pub add_row : Row → List Row → List Row
add_row = insert row_key unite_rows

-- a list in another's place, unless it is longer than the largest figure
unfoldable pub unless_over {ℓ} : {A : Type ℓ} → ℕ → List A → List A → List A
unless_over most new old = cond (exceeds (length new) most) old new

-- a row has nothing to do with a set of changes: neither its second nor its third byte is in it
unfoldable pub spared : Set → Row → Bool
spared s r = not (s r.k2 || s r.k3)

-- r rows stored at the front of a section
pub record Stored (rs : List Row) (before : List ℕ) (r : ℕ) (after : List ℕ) : Type 0 where
  -- how many there are
  pub count : r ≡ length rs
  -- theirs are the first bytes, and the bytes past them are as they were
  pub bytes : after ≡ patch before 0 (rows_bytes rs)

-- of the first n rows the r that pass, closed up
pub record Closed (q : Row → Bool) (n : ℕ) (before : List ℕ) (r : ℕ) (after : List ℕ) : Type 0 where
  -- how many there are
  pub count : r ≡ length (keep q (rows n before))
  -- theirs are the first bytes, the places that got free are 0, and the bytes past the n rows are as they were
  pub bytes : after ≡ patch before 0 (rows_bytes (keep q (rows n before)) ++ replicate (4 * n - 4 * r) 0)

-- of the first n records of w bytes those that a test lets stay, closed up: it answers by R, and started as p
pub record Retained {P : Type 0} (R : P → List ℕ → Bool → P → Type 0) (p : P) (w n : ℕ) (before : List ℕ) (r : ℕ) (after : List ℕ) : Type 0 where
  -- the records that stay, in order
  pub kept : List (List ℕ)
  pub passed : IsFiltered R p (first_chunks w n before) kept
  -- how many there are
  pub count : r ≡ length kept
  -- theirs are the first bytes, the places that got free are 0, and the bytes past the n records are as they were
  pub bytes : after ≡ concat kept ++ (replicate (n * w - r * w) 0 ++ drop (n * w) before)
