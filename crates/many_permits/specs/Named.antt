-- One entry's locks with the permits to anybody set apart from those that name a writer. Its readers are r, its writers x; u and v are the
-- givers of permits to anybody that contain read and that contain write; t are the permits, and n how many. Assumes nothing.
use Rattle.std.specs.Prelude.{Bool, not, ◌&&◌, ◌||◌, ℕ, eqb}
use Rattle.rules.specs.Base.{all_below, lowest_or_zero}
use Rattle.rules.specs.Sets.{Set}
use Rattle.rules.specs.Window.{PermitRecord}
use Rattle.rules.specs.Locks.{contains, blocking}
use Rattle.beside.specs.Permits.{any_of}
use Rattle.beside.specs.Beside.{contains_held, other_holder}

-- ONE PERMIT
-- a change gives it or takes it
unfoldable pub involves : ℕ → PermitRecord → Bool
involves c p = eqb p.giver c || eqb p.taker c

-- it is from g to anybody and contains a mode
unfoldable pub permits_anybody : ℕ → ℕ → PermitRecord → Bool
permits_anybody mode g p = eqb p.giver g && (eqb p.taker 0 && contains p.ops mode)

-- it is from the writer a to b, for the mode that b holds, or from b to a, for write
unfoldable pub names : Set → Set → ℕ → ℕ → PermitRecord → Bool
names r x a b p = eqb p.giver a && (eqb p.taker b && contains_held p.ops (r b) (x b)) || eqb p.giver b && (eqb p.taker a && contains p.ops 2)

-- THE HOLDERS
-- another holder than the writer a, whom no permit to anybody lets stand beside it
unfoldable pub unserved : Set → Set → Set → Set → ℕ → Set
unserved r x u v a b = other_holder r x a b && not (v b || r b && u a || x b && v a)

-- one of the permits names b and the writer a
unfoldable pub is_named : ℕ → (ℕ → PermitRecord) → Set → Set → ℕ → Set
is_named n t r x a b = any_of n t (names r x a b)

-- the lowest of those whom neither lets stand beside it; 0 where there is none
unfoldable pub blocker_left : ℕ → (ℕ → PermitRecord) → Set → Set → Set → Set → ℕ → ℕ
blocker_left n t r x u v a = lowest_or_zero 256 (blocking (unserved r x u v a) (is_named n t r x a) a)

-- nobody is in the way of any writer
unfoldable pub writers_fit : ℕ → (ℕ → PermitRecord) → Set → Set → Set → Set → Bool
writers_fit n t r x u v = all_below 256 (λ a. not (x a) || eqb (blocker_left n t r x u v a) 0)
