-- One entry's locks in code: its readers and its writers. Assumes nothing.
use Rattle.std.specs.Prelude.{◌≡◌, ℕ}
use Rattle.sets.specs.Members.{members}
use Rattle.locks.specs.Held.{in_mode}
use Rattle.locks.specs.declared.EntryLocks.{EntryLocks}

-- the two sets are those of a row
pub record LocksOf (l : EntryLocks) (row : ℕ → ℕ) : Type 0 where
  -- "1 read"
  pub readers : (k : ℕ) → members l.readers k ≡ in_mode 1 row k
  -- "2 write"
  pub writers : (k : ℕ) → members l.writers k ≡ in_mode 2 row k
