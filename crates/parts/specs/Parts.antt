-- What is asked of several sections at once. Assumes nothing.
use Rattle.std.specs.Prelude.{◌≡◌, true, List, ℕ, suc, length}
use Rattle.rules.specs.Sets.{Set}
use Rattle.rules.specs.Window.{Window}
use Rattle.layout.specs.Codec.{values_at, values_size, line_at, line_size, locks_at, locks_size, permits_at, permits_size, ties_at, ties_size, log_at, log_size, tie_section}
use Rattle.layout.specs.Records.{ends_below}
use Rattle.cells.specs.Part.{part}
use Rattle.sections.specs.Sections.{ValuesSound, LocksSound, LogSound}
use Rattle.line_section.specs.Sections.{LineSound}
use Rattle.row_sections.specs.Sections.{PermitsSound, TiesSound}
use Rattle.clashes.specs.LocksAndPermits.{LocksAndPermits}

-- the values, the line and the locks
pub record FrontSound (bs : List ℕ) (entries waiters : ℕ) (live runs : Set) : Type 0 where
  pub values : ValuesSound (part bs values_at values_size) entries
  pub line : LineSound (part bs line_at line_size) waiters entries runs
  pub locks : LocksSound (part bs locks_at locks_size) entries live

-- the permits, the ties and the log
pub record BackSound (bs : List ℕ) (entries permit_count tie_count record-count : ℕ) (live : Set) (held : ℕ → ℕ → ℕ) : Type 0 where
  pub permits : PermitsSound (part bs permits_at permits_size) permit_count entries live
  pub ties : TiesSound (part bs ties_at ties_size) tie_count live
  pub log : LogSound (part bs log_at log_size) record-count entries live held

-- a window whose locks, permits and ties are in the bytes: locks in range, permits in order, ties between changes that were given
pub record Listed (bs : List ℕ) (entries permits ties : ℕ) (W : Window) : Type 0 where
  pub held : LocksAndPermits (part bs locks_at locks_size) (part bs permits_at permits_size) entries permits W
  pub ties_stored : part bs ties_at ties_size ≡ tie_section W.ties
  pub tie_count : length W.ties ≡ ties
  pub ends : ends_below (suc W.given) W.ties ≡ true
