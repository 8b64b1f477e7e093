-- What is asked of one place of a section, in its bytes. Assumes nothing.
use Rattle.std.specs.Prelude.{Bool, not, ◌&&◌, ◌||◌, List, ℕ, ◌+◌, ◌*◌, ltb, eqb, get_or}
use Rattle.rules.specs.Base.{outside, all_below}
use Rattle.rules.specs.Sets.{Set}
use Rattle.cells.specs.Bits.{bytes_have}

-- a change's place: a status from 1 to 5, a lower parent, and two bytes that are 0
unfoldable pub change_fits : List ℕ → ℕ → Bool
change_fits bs c = not (outside 1 5 (get_or bs (c * 4) 0)) && ltb (get_or bs (c * 4 + 1) 0) c && eqb (get_or bs (c * 4 + 2) 0) 0 && eqb (get_or bs (c * 4 + 3) 0) 0

-- counted from 0, the place of change c + 1
unfoldable pub next_fits : List ℕ → ℕ → Bool
next_fits bs c = change_fits bs (c + 1)

-- a change's bit among an entry's readers, and among its writers
unfoldable pub reads : List ℕ → ℕ → Set
reads bs e = bytes_have bs (e * 64)

unfoldable pub writes : List ℕ → ℕ → Set
writes bs e = bytes_have bs (e * 64 + 32)

-- not both, and none of a change that is not live
unfoldable pub lock_fits : List ℕ → Set → ℕ → ℕ → Bool
lock_fits bs lives e c = not (reads bs e c && writes bs e c || (reads bs e c || writes bs e c) && not (lives c))

-- so of all changes on an entry
unfoldable pub row_fits : List ℕ → Set → ℕ → Bool
row_fits bs lives e = all_below 256 (lock_fits bs lives e)

-- the owner's bit stands among the entry's writers
unfoldable pub record_fits : List ℕ → List ℕ → ℕ → Bool
record_fits bs locks j = writes locks (get_or bs (j * 6 + 1) 0) (get_or bs (j * 6) 0)
