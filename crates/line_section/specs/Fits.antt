-- What is asked of one place of the line's section, in its bytes. Assumes nothing.
use Rattle.std.specs.Prelude.{Bool, not, ◌&&◌, List, ℕ, ◌+◌, ◌*◌, eqb, get_or}
use Rattle.rules.specs.Base.{any_below}
use Rattle.rules.specs.Sets.{Set}
use Rattle.rules.specs.Sound.{waiter_sound}
use Rattle.layout.specs.Records.{waiter_at}

-- those who run, by the bytes of the changes
unfoldable pub run_in : List ℕ → Set
run_in changes c = eqb (get_or changes (c * 4) 0) 2

-- who stands at a place runs, at an entry that there is, with a mode that a lock has; and the last byte is 0
unfoldable pub waiter_fits : List ℕ → ℕ → List ℕ → ℕ → Bool
waiter_fits bs entries changes j = waiter_sound entries (run_in changes) (waiter_at bs j) && eqb (get_or bs (j * 4 + 3) 0) 0

-- a change is that of a place
unfoldable pub stands_at : List ℕ → ℕ → ℕ → Bool
stands_at bs c i = eqb c (get_or bs (i * 4) 0)

-- the change of a place stands at none before it
unfoldable pub is_new : List ℕ → ℕ → Bool
is_new bs j = not (any_below j (stands_at bs (get_or bs (j * 4) 0)))

unfoldable pub place_fits : List ℕ → ℕ → List ℕ → ℕ → Bool
place_fits bs entries changes j = waiter_fits bs entries changes j && is_new bs j
