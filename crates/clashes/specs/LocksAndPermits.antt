-- The window that the lent sections of locks and of permits are part of. Assumes nothing.
use Rattle.std.specs.Prelude.{◌≡◌, true, List, ℕ, ◌<◌, length}
use Rattle.rules.specs.Base.{rising}
use Rattle.rules.specs.Window.{Window, permit_key}
use Rattle.layout.specs.Codec.{lock_section, permit_section}
use Rattle.locks.specs.Held.{Modes}

-- the bytes and figures are those of a window whose locks and permits are in range and in order
pub record LocksAndPermits (locks permits : List ℕ) (entries count : ℕ) (W : Window) : Type 0 where
  -- every byte of its locks, and of its permits
  pub lock_bytes : locks ≡ lock_section W.held
  pub permits_stored : permits ≡ permit_section W.permits
  -- how many entries and how many permits it has
  pub entry-count : W.entries ≡ entries
  pub permit_count : length W.permits ≡ count
  -- each lock is "0 none, 1 read or 2 write"
  pub modes : Modes W.held
  -- "255 changes in a window's life"
  pub given : W.given < 256
  -- no change above the highest given has a lock, nor has change 0, which is nobody
  pub none_above : (e c : ℕ) → W.given < c → W.held e c ≡ 0
  pub nobody : (e : ℕ) → W.held e 0 ≡ 0
  -- "Kept in rising order of entry, giver, taker"
  pub in_order : rising permit_key W.permits ≡ true
