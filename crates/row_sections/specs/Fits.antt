-- What is asked of one place of the sections of permits and of ties, in their bytes. Assumes nothing.
use Rattle.std.specs.Prelude.{Bool, ◌&&◌, ◌||◌, List, ℕ, ◌+◌, ◌-◌, ◌*◌, ltb, eqb, get_or}
use Rattle.rules.specs.Sets.{Set}
use Rattle.rules.specs.Sound.{permit_sound, tie_sound}
use Rattle.layout.specs.Records.{tie_at, permit_at}
use Rattle.rows.specs.Rows.{rank, row_at}

-- a row is above the one before it
unfoldable pub is_in_order : List ℕ → ℕ → Bool
is_in_order bs j = eqb j 0 || ltb (rank (row_at bs (j - 1))) (rank (row_at bs j))

unfoldable pub permit_fits : List ℕ → ℕ → Set → ℕ → Bool
permit_fits bs entries lives j = permit_sound entries lives (permit_at bs j) && is_in_order bs j

unfoldable pub tie_fits : List ℕ → Set → ℕ → Bool
tie_fits bs lives j = tie_sound lives (tie_at bs j) && eqb (get_or bs (j * 4 + 3) 0) 0 && is_in_order bs j
