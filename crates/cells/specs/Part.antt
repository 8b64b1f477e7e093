-- A part of a list, a list with a part replaced, and whether a byte of a part is a given one. Assumes nothing.
use Rattle.std.specs.Prelude.{Bool, List, ◌++◌, ℕ, ◌+◌, eqb, length, take, drop, get_or}

-- the n elements of l from index at
unfoldable pub part : List ℕ → ℕ → ℕ → List ℕ
part l at n = take n (drop at l)

-- l with xs in the place of as many elements from index at
unfoldable pub patch : List ℕ → ℕ → List ℕ → List ℕ
patch l at xs = take at l ++ (xs ++ drop (length xs) (drop at l))

-- element i, counted from index at, is b
unfoldable pub byte_is : List ℕ → ℕ → ℕ → ℕ → Bool
byte_is l at b i = eqb (get_or l (at + i) 0) b
