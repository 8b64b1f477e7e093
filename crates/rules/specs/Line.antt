-- docs/RULES.md, "The lines". Assumes nothing.
use Rattle.std.specs.Prelude.{Bool, not, cond, ◌&&◌, List, [], ◌∷◌, ℕ, eqb}
use Rattle.rules.specs.Base.{any, keep}
use Rattle.rules.specs.Sets.{Set}
use Rattle.rules.specs.Window.{LineRecord}

-- a place in line as the call names it
unfoldable pub make_waiter : ℕ → ℕ → ℕ → LineRecord
make_waiter c e m = record { change = c; entry = e; mode = m }

-- "12. The change stands in another entry's line"
unfoldable pub waits_elsewhere : List LineRecord → ℕ → ℕ → Bool
waits_elsewhere l c e = any (λ r. eqb r.change c && not (eqb r.entry e)) l

-- "the first in line": the change of the entry's first record; 0 where its line is empty
unfoldable pub first_in_line : List LineRecord → ℕ → ℕ
first_in_line [] e = 0
first_in_line (r ∷ l) e = cond (eqb r.entry e) r.change (first_in_line l e)

-- the other change than c that is first in line; 0 where there is none.
-- "Only the first in line, or anyone when the line is empty, can be granted"
unfoldable pub other_first : List LineRecord → ℕ → ℕ → ℕ
other_first l c e = cond (eqb (first_in_line l e) c) 0 (first_in_line l e)

-- "puts its change at the end of that entry's line, with its mode"; "A repeated call keeps its place and takes the newer mode".
-- Only a change that stands in no other entry's line enters one
unfoldable pub enter_line : LineRecord → List LineRecord → List LineRecord
enter_line w [] = w ∷ []
enter_line w (r ∷ l) = cond (eqb r.change w.change) (w ∷ l) (r ∷ enter_line w l)

-- "a grant leaves the line", a mode already covered "takes the change out of that entry's line", "A change that stops running leaves its line":
-- what is left of the lines when the changes of a set leave. Each stands in one line at most
unfoldable pub stays_in_line : Set → LineRecord → Bool
stays_in_line s r = not (s r.change)

unfoldable pub line_left : Set → List LineRecord → List LineRecord
line_left s = keep (stays_in_line s)
