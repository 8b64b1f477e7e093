-- The permits of an entry, by their places. Assumes nothing.
use Rattle.std.specs.Prelude.{◌≡◌, Bool, true, false, ℕ, ◌+◌, ◌≤◌, ◌<◌, leb}
use Rattle.rules.specs.Window.{PermitRecord}

-- the permit at a place counted from another
unfoldable pub permit_from : (ℕ → PermitRecord) → ℕ → ℕ → PermitRecord
permit_from t from j = t (from + j)

-- the entry is not below a number
unfoldable pub from_entry : ℕ → PermitRecord → Bool
from_entry e p = leb e p.entry

-- the first place from a start on whose permit passes, of so many; the count where there is none
pub record FirstOf (p : PermitRecord → Bool) (t : ℕ → PermitRecord) (count start at : ℕ) : Type 0 where
  pub from : start ≤ at
  pub to : at ≤ count
  -- none on the way passes
  pub skipped : (j : ℕ) → start ≤ j → j < at → p (t j) ≡ false
  -- it passes itself
  pub found : at < count → p (t at) ≡ true
