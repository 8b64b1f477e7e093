-- docs/RULES.md, "What a window holds": the figures, the records and the window itself. Assumes nothing.
use Rattle.std.specs.Prelude.{Bool, not, ◌&&◌, ◌||◌, List, [], ℕ, suc, ltb, leb, eqb}
use Rattle.rules.specs.Base.{Key, outside}

-- "The largest figures": how many entries, changes in a window's life, log records, permits and ties there may be.
-- The rules take them as a parameter, and their laws hold for any
pub record Limits : Type 0 where
  pub entries : ℕ
  pub changes : ℕ
  pub records : ℕ
  pub permits : ℕ
  pub ties : ℕ

-- "256 entries, 255 changes in a window's life, 2,048 log records, 1,024 permits and 512 ties"
unfoldable pub limits : Limits
limits = record { entries = 256; changes = 255; records = 2048; permits = 1024; ties = 512 }

-- "Log: records in order of writing, each with its owner, entry and the value before" (an undo log of before-images)
pub record LogRecord : Type 0 where
  pub owner : ℕ
  pub entry : ℕ
  pub before : ℕ

-- "Permits: giver, taker (0 is anybody), entry, operations (1 read, 2 write, 3 both)"
pub record PermitRecord : Type 0 where
  pub giver : ℕ
  pub taker : ℕ
  pub entry : ℕ
  pub ops : ℕ

-- "Ties: kind 1 wait (commit dependency), 2 fall (abort dependency), 3 group; a leader and a follower" (group: group-commit dependency)
pub record TieRecord : Type 0 where
  pub kind : ℕ
  pub leader : ℕ
  pub follower : ℕ

-- "each entry has a line of changes that wait for a lock on it, in order of coming, each with its mode" (a queue of lock requests)
pub record LineRecord : Type 0 where
  pub change : ℕ
  pub entry : ℕ
  pub mode : ℕ

-- a window: "Entries, numbered from 0" (data items) with their values, "Changes, numbered 1, 2, 3" (transactions) with status and parent,
-- "Locks: for each entry and change", the log, the permits, the ties and the lines.
-- `given` is the highest change number given; `held e c` is the lock of change c on entry e: "0 none, 1 read or 2 write".
-- `line` has the lines of all entries, in order of coming: the line of an entry is its records there, in that order
pub record Window : Type 0 where
  pub entries : ℕ
  pub value : ℕ → ℕ
  pub given : ℕ
  pub status : ℕ → ℕ
  pub parent : ℕ → ℕ
  pub held : ℕ → ℕ → ℕ
  pub log : List LogRecord
  pub permits : List PermitRecord
  pub ties : List TieRecord
  pub line : List LineRecord

-- "Status: 1 initiated, 2 running, 3 completed, 4 committed, 5 aborted. Statuses 1 to 3 are live" (active)
abbrev pub is_live : ℕ → Bool
is_live status = not (outside 1 3 status)

-- a change ends when its status becomes 4 or 5
unfoldable pub is_ended : ℕ → Bool
is_ended status = eqb status 4 || eqb status 5

-- "A change number is 0 or above the highest given": no change has it
abbrev pub not_given : ℕ → ℕ → Bool
not_given given c = eqb c 0 || ltb given c

unfoldable pub no_change : Window → ℕ → Bool
no_change W c = not_given W.given c

-- "An entry number is not below the number of entries"
unfoldable pub no_entry : Window → ℕ → Bool
no_entry W e = leb W.entries e

-- a live change, by the highest given and the statuses
abbrev pub lives : ℕ → (ℕ → ℕ) → ℕ → Bool
lives given status c = ltb c (suc given) && is_live (status c)

unfoldable pub live : Window → ℕ → Bool
live W c = lives W.given W.status c

-- "2 running"
unfoldable pub running : Window → ℕ → Bool
running W c = eqb (W.status c) 2

-- permits: "Kept in rising order of entry, giver, taker"
unfoldable pub permit_key : PermitRecord → Key
permit_key p = record { k1 = p.entry; k2 = p.giver; k3 = p.taker }

-- ties: "in rising order of kind, leader, follower"
unfoldable pub tie_key : TieRecord → Key
tie_key t = record { k1 = t.kind; k2 = t.leader; k3 = t.follower }

-- "as many as open was given", "all 0 at the start": what open makes
unfoldable pub fresh : ℕ → Window
fresh n = record { entries = n; value = λ e. 0; given = 0; status = λ c. 0; parent = λ c. 0; held = λ e c. 0; log = []; permits = []; ties = []; line = [] }

-- a window with one part put in another's place
unfoldable pub with_value : Window → (ℕ → ℕ) → Window
with_value W x = record { entries = W.entries; value = x; given = W.given; status = W.status; parent = W.parent; held = W.held; log = W.log; permits = W.permits; ties = W.ties; line = W.line }

unfoldable pub with_status : Window → (ℕ → ℕ) → Window
with_status W x = record { entries = W.entries; value = W.value; given = W.given; status = x; parent = W.parent; held = W.held; log = W.log; permits = W.permits; ties = W.ties; line = W.line }

unfoldable pub with_held : Window → (ℕ → ℕ → ℕ) → Window
with_held W x = record { entries = W.entries; value = W.value; given = W.given; status = W.status; parent = W.parent; held = x; log = W.log; permits = W.permits; ties = W.ties; line = W.line }

unfoldable pub with_log : Window → List LogRecord → Window
with_log W x = record { entries = W.entries; value = W.value; given = W.given; status = W.status; parent = W.parent; held = W.held; log = x; permits = W.permits; ties = W.ties; line = W.line }

unfoldable pub with_permits : Window → List PermitRecord → Window
with_permits W x = record { entries = W.entries; value = W.value; given = W.given; status = W.status; parent = W.parent; held = W.held; log = W.log; permits = x; ties = W.ties; line = W.line }

unfoldable pub with_ties : Window → List TieRecord → Window
with_ties W x = record { entries = W.entries; value = W.value; given = W.given; status = W.status; parent = W.parent; held = W.held; log = W.log; permits = W.permits; ties = x; line = W.line }

unfoldable pub with_line : Window → List LineRecord → Window
with_line W x = record { entries = W.entries; value = W.value; given = W.given; status = W.status; parent = W.parent; held = W.held; log = W.log; permits = W.permits; ties = W.ties; line = x }
