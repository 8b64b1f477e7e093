-- One entry's locks and the permits that let others stand beside a writer. Its readers are r, its writers x; t are the permits, and n how
-- many. Assumes nothing.
use Rattle.std.specs.Prelude.{Bool, not, ◌&&◌, ◌||◌, ℕ, eqb}
use Rattle.rules.specs.Base.{all_below, lowest_or_zero}
use Rattle.rules.specs.Sets.{Set}
use Rattle.rules.specs.Window.{PermitRecord}
use Rattle.rules.specs.Locks.{contains, blocking}
use Rattle.beside.specs.Permits.{any_of}

-- operations contain the mode of one that reads or writes
unfoldable pub contains_held : ℕ → Bool → Bool → Bool
contains_held operations reads writes = reads && contains operations 1 || writes && contains operations 2

-- a permit is from the writer a to b or to anybody, for the mode that b holds, or from b to a or to anybody, for write
unfoldable pub beside : Set → Set → ℕ → ℕ → PermitRecord → Bool
beside r x a b p = eqb p.giver a && ((eqb p.taker b || eqb p.taker 0) && contains_held p.ops (r b) (x b)) || eqb p.giver b && ((eqb p.taker a || eqb p.taker 0) && contains p.ops 2)

-- b holds the entry
unfoldable pub holder : Set → Set → Set
holder r x b = r b || x b

-- and is another than a
unfoldable pub other_holder : Set → Set → ℕ → Set
other_holder r x a b = not (eqb b a) && holder r x b

-- one of the permits lets b stand beside the writer a
unfoldable pub stands_beside : ℕ → (ℕ → PermitRecord) → Set → Set → ℕ → Set
stands_beside n t r x a b = any_of n t (beside r x a b)

-- the lowest holder in the way of the writer a, 0 where there is none: every other holder's lock clashes with a writer's
unfoldable pub writer_blocker : ℕ → (ℕ → PermitRecord) → Set → Set → ℕ → ℕ
writer_blocker n t r x a = lowest_or_zero 256 (blocking (holder r x) (stands_beside n t r x a) a)

-- nobody is in the way of any writer
unfoldable pub entry_fits : ℕ → (ℕ → PermitRecord) → Set → Set → Bool
entry_fits n t r x = all_below 256 (λ a. not (x a) || eqb (writer_blocker n t r x a) 0)
