-- Where the code stands in a listing, as a state. Assumes nothing.
use Rattle.std.specs.Prelude.{Bool, true, false, List, ℕ, ◌+◌, take}
use Rattle.listing.specs.Feed.{State}
use Rattle.listing.specs.declared.Stage.{Stage}
use Rattle.listing.specs.declared.Stage.TheVariants.{First, Later, Over}
use Rattle.listing.specs.declared.Stand.{Stand}

-- the place of the line begun
abbrev pub place_of : Stage → ℕ
place_of First = 0
place_of (Later n) = n + 1
place_of (Over n) = n

abbrev pub is_over : Stage → Bool
is_over First = false
is_over (Later n) = false
is_over (Over n) = true

-- with the bytes of the line begun, the memory and what is printed
abbrev pub standing : Stand → (line memory out : List ℕ) → State
standing s line memory out = record { line = take s.held line; place = place_of s.stage; over = is_over s.stage; memory = memory; out = take s.used out }
