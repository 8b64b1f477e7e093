-- Parts of text: the pieces between single bytes, and the lines. Assumes nothing.
use Rattle.std.specs.Prelude.{cond, List, [], ◌∷◌, ℕ, eqb}

-- x put in front of the first part
unfoldable pub in_front : ℕ → List (List ℕ) → List (List ℕ)
in_front x [] = (x ∷ []) ∷ []
in_front x (f ∷ fs) = (x ∷ f) ∷ fs

-- the parts of a text between bytes s: n such bytes make n + 1 parts, empty or not
unfoldable pub parted_by : ℕ → List ℕ → List (List ℕ)
parted_by s [] = [] ∷ []
parted_by s (x ∷ l) = cond (eqb x s) ([] ∷ parted_by s l) (in_front x (parted_by s l))

-- the lines of a text: each newline ends one. "The last newline may be absent"
unfoldable pub lines : List ℕ → List (List ℕ)
lines [] = []
lines (x ∷ l) = cond (eqb x 10) ([] ∷ lines l) (in_front x (lines l))
