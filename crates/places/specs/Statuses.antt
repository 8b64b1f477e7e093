-- The members of a set below a bound; the changes whose status lies in a range. Assumes nothing.
use Rattle.std.specs.Prelude.{not, ◌&&◌, List, ℕ, ◌*◌, ltb, get_or}
use Rattle.rules.specs.Base.{outside}
use Rattle.rules.specs.Sets.{Set}

-- the members below n
unfoldable pub firsts : ℕ → Set → Set
firsts n s k = ltb k n && s k

-- the status of k, off the section's bytes, is from low to high
unfoldable pub in_range : List ℕ → ℕ → ℕ → Set
in_range changes low high k = not (outside low high (get_or changes (k * 4) 0))
