-- The listing when the input comes in pieces, and what is printed for each is written before the next is read. Assumes nothing.
use Rattle.std.specs.Prelude.{List, [], ◌∷◌, ◌++◌, ℕ}
use Rattle.listing.specs.Feed.{State, fed, ended}

-- what has been printed is written: nothing waits
unfoldable pub written : State → State
written s = record { line = s.line; place = s.place; over = s.over; memory = s.memory; out = [] }

-- the outputs one after the other: of each piece, from the state that the last one left, and of the end
unfoldable pub outputs : State → List (List ℕ) → List ℕ
outputs s [] = (ended (written s)).out
outputs s (piece ∷ pieces) = (fed (written s) piece).out ++ outputs (fed (written s) piece) pieces
