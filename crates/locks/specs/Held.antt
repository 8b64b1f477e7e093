-- One entry's locks as sets of changes, and the locks changed by entries. Assumes nothing.
use Rattle.std.specs.Prelude.{◌≡◌, cond, ◌&&◌, ◌||◌, List, ℕ, ◌+◌, ◌≤◌, ltb, eqb}
use Rattle.rules.specs.Sets.{Set}
use Rattle.rules.specs.Locks.{clash}
use Rattle.sets.specs.Members.{loaded}

-- every lock is "0 none, 1 read or 2 write"
unfoldable pub Modes : (ℕ → ℕ → ℕ) → Type 0
Modes held = (e c : ℕ) → held e c ≤ 2

-- there is no lock on an entry from a number on
unfoldable pub NoneFrom : ℕ → (ℕ → ℕ → ℕ) → Type 0
NoneFrom entries held = (e c : ℕ) → entries ≤ e → held e c ≡ 0

-- one entry's locks, a row: which change holds it in a mode
unfoldable pub in_mode : ℕ → (ℕ → ℕ) → Set
in_mode mode row c = ltb c 256 && eqb (row c) mode

-- which change holds it at all
unfoldable pub holding : (ℕ → ℕ) → Set
holding row c = ltb c 256 && ltb 0 (row c)

-- whose lock on it clashes with a mode
unfoldable pub clashes_with : ℕ → (ℕ → ℕ) → Set
clashes_with mode row c = ltb c 256 && clash (row c) mode

-- which of the changes of a set, given as its 32 bytes, hold the entry whose locks stand at a place
unfoldable pub holders_among : List ℕ → ℕ → List ℕ → Set
holders_among locks at bytes c = (loaded locks at c || loaded locks (at + 32) c) && loaded bytes 0 c

-- the locks with the rows of a set of entries changed by one rule
unfoldable pub changed_on : Set → ((ℕ → ℕ) → ℕ → ℕ) → (ℕ → ℕ → ℕ) → ℕ → ℕ → ℕ
changed_on on rule held e c = cond (on e) (rule (held e) c) (held e c)
