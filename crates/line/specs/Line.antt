-- The lines of a window in their section: a record as a row of four bytes, and who is found there. Words of inner contracts. Assumes nothing.
use Rattle.std.specs.Prelude.{◌≡◌, ◌≢◌, Bool, not, List, ℕ, ◌+◌, ◌*◌, ◌<◌, get_or}
use Rattle.rules.specs.Sets.{Set}
use Rattle.rules.specs.Window.{LineRecord}
use Rattle.rows.specs.Rows.{Row, row}

-- a record as a row of four bytes; a row of a change that is not in a set
unfoldable pub waiter_row : LineRecord → Row
waiter_row r = row r.change r.entry r.mode 0

unfoldable pub row_stays : Set → Row → Bool
row_stays s r = not (s r.k1)

-- of the first n records of a section, the first whose byte k is x stands at a place; n where none is
pub record Found (bs : List ℕ) (n k x at : ℕ) : Type 0 where
  -- those before it have another
  pub before : (j : ℕ) → j < at → get_or bs (j * 4 + k) 0 ≢ x
  -- it has this one
  pub here : at < n → get_or bs (at * 4 + k) 0 ≡ x
