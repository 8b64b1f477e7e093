-- Sets of numbers, and the least set that holds a set and is closed under a relation. Assumes nothing.
use Rattle.std.specs.Prelude.{Bool, true, cond, ◌&&◌, ◌||◌, ℕ, zero, suc, eqb}
use Rattle.rules.specs.Base.{any_below}

-- a set of changes or of entries: its members pass
abbrev pub Set : Type 0
Set = ℕ → Bool

-- a relation of changes
abbrev pub Rel : Type 0
Rel = ℕ → ℕ → Bool

-- every number
unfoldable pub everything : Set
everything c = true

-- the set of one
unfoldable pub only : ℕ → Set
only c d = eqb d c

-- a function with the places of a set changed to one value
unfoldable pub put_all : Set → ℕ → (ℕ → ℕ) → ℕ → ℕ
put_all s v f c = cond (s c) v (f c)

-- the members, and what one step of the relation leads to from them
unfoldable pub grow : ℕ → Rel → Set → Set
grow n r s c = s c || any_below n (λ d. s d && r d c)

-- k times over
unfoldable pub times : ℕ → (Set → Set) → Set → Set
times zero f s = s
times (suc k) f s = times k f (f s)

-- the least set that holds s and is closed under r, of numbers below n (what is reachable from s).
-- proofs/SetLaws shows that it holds s, is closed, and lies within every closed set that holds s; proofs/PathLaws says it by paths
unfoldable pub closure : ℕ → Rel → Set → Set
closure n r s = times n (grow n r) s

-- "the least set that holds the change and is closed"
unfoldable pub reach : ℕ → Rel → ℕ → Set
reach n r c = closure n r (only c)
