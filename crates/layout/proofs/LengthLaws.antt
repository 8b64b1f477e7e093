-- How long the sections of the line, locks, permits, ties and the log are. Assumes nothing.
use mathlib.Core.Path.{◌≡◌}
use mathlib.Core.List.{List}
use Prim.Native.Nat.{ℕ}
use lib.ListN.{length}
use Rattle.rules.specs.Window.{LogRecord, PermitRecord, TieRecord, LineRecord}
use Rattle.layout.specs.Codec.{line_size, line_byte, line_section, locks_size, permits_size, ties_size, log_size, lock_byte, permit_byte, tie_byte, log_byte, lock_section, permit_section, tie_section, log_section}
use Rattle.layout.proofs.SectionLaws.{length-table}

-- the line
pub length-line : (l : List LineRecord) → length (line_section l) ≡ line_size
unfolding line_section
length-line l = length-table line_size 0 (line_byte l)

-- the locks
pub length-locks : (held : ℕ → ℕ → ℕ) → length (lock_section held) ≡ locks_size
unfolding lock_section
length-locks held = length-table locks_size 0 (lock_byte held)

-- the permits
pub length-permits : (ps : List PermitRecord) → length (permit_section ps) ≡ permits_size
unfolding permit_section
length-permits ps = length-table permits_size 0 (permit_byte ps)

-- the ties
pub length-ties : (ts : List TieRecord) → length (tie_section ts) ≡ ties_size
unfolding tie_section
length-ties ts = length-table ties_size 0 (tie_byte ts)

-- the log
pub length-log : (l : List LogRecord) → length (log_section l) ≡ log_size
unfolding log_section
length-log l = length-table log_size 0 (log_byte l)
