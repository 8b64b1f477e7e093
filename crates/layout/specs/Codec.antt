-- The bytes of a window: one table of sections, written and read. Assumes nothing.
use Rattle.std.specs.Prelude.{Bool, true, false, cond, ◌&&◌, List, [], ◌∷◌, ◌++◌, ℕ, zero, suc, ◌+◌, ◌*◌, ◌/◌, ◌%◌, ◌^◌, ltb, eqb, get_or, length}
use Rattle.rules.specs.Base.{table}
use Rattle.rules.specs.Window.{LogRecord, PermitRecord, TieRecord, LineRecord, Window}

-- THE TABLE OF SECTIONS: where each begins, and its bytes
-- header: 32 places of 2 bytes
abbrev pub head_at : ℕ
head_at = 0

abbrev pub head_size : ℕ
head_size = 64

-- values: 256 places of 4 bytes
abbrev pub values_at : ℕ
values_at = 64

abbrev pub values_size : ℕ
values_size = 1024

-- changes: 256 places of 4 bytes, the first unused
abbrev pub changes_at : ℕ
changes_at = 1088

abbrev pub changes_size : ℕ
changes_size = 1024

-- the line: 256 places of 4 bytes
abbrev pub line_at : ℕ
line_at = 2112

abbrev pub line_size : ℕ
line_size = 1024

-- locks: 256 places of 64 bytes
abbrev pub locks_at : ℕ
locks_at = 3136

abbrev pub locks_size : ℕ
locks_size = 16384

-- permits: 1,024 places of 4 bytes
abbrev pub permits_at : ℕ
permits_at = 19520

abbrev pub permits_size : ℕ
permits_size = 4096

-- ties: 512 places of 4 bytes
abbrev pub ties_at : ℕ
ties_at = 23616

abbrev pub ties_size : ℕ
ties_size = 2048

-- log: 2,048 places of 6 bytes
abbrev pub log_at : ℕ
log_at = 25664

abbrev pub log_size : ℕ
log_size = 12288

-- "its one size"
abbrev pub window_size : ℕ
window_size = 37952

-- byte k of a number, little end first
unfoldable pub byte : ℕ → ℕ → ℕ
byte k v = v / 256 ^ k % 256

abbrev pub bit : Bool → ℕ
bit true = 1
bit false = 0

-- n tests as a number, the first in its lowest bit
unfoldable pub pack : ℕ → (ℕ → Bool) → ℕ
pack zero p = 0
pack (suc n) p = bit (p 0) + 2 * pack n (λ j. p (suc j))

-- what stands in an unused place of a table
abbrev pub no_record : LogRecord
no_record = record { owner = 0; entry = 0; before = 0 }

abbrev pub no_permit : PermitRecord
no_permit = record { giver = 0; taker = 0; entry = 0; ops = 0 }

abbrev pub no_tie : TieRecord
no_tie = record { kind = 0; leader = 0; follower = 0 }

abbrev pub no_waiter : LineRecord
no_waiter = record { change = 0; entry = 0; mode = 0 }

-- BYTE i OF EACH SECTION, from the part of the window that it holds
-- header: the figures, two bytes each, and the rest reserved
unfoldable pub head_byte : List ℕ → ℕ → ℕ
head_byte figures i = byte (i % 2) (get_or figures (i / 2) 0)

-- values: four bytes for each entry
unfoldable pub value_byte : (ℕ → ℕ) → ℕ → ℕ
value_byte value i = byte (i % 4) (value (i / 4))

-- changes: status, parent, a byte reserved and one that is 0
unfoldable pub change_byte : (ℕ → ℕ) → (ℕ → ℕ) → ℕ → ℕ
change_byte status parent i = get_or (status (i / 4) ∷ parent (i / 4) ∷ []) (i % 4) 0

-- the line: change, entry, mode, and a byte that is 0
unfoldable pub waiter_bytes : LineRecord → List ℕ
waiter_bytes r = r.change ∷ r.entry ∷ r.mode ∷ 0 ∷ []

unfoldable pub line_byte : List LineRecord → ℕ → ℕ
line_byte l i = get_or (waiter_bytes (get_or l (i / 4) no_waiter)) (i % 4) 0

-- locks: for each entry 32 bytes of readers' bits and 32 of writers' bits, bit c for change c
unfoldable pub lock_byte : (ℕ → ℕ → ℕ) → ℕ → ℕ
lock_byte held i = pack 8 (λ b. eqb (held (i / 64) (i % 32 * 8 + b)) (suc (i % 64 / 32)))

-- permits: entry, giver, taker, operations
unfoldable pub permit_bytes : PermitRecord → List ℕ
permit_bytes p = p.entry ∷ p.giver ∷ p.taker ∷ p.ops ∷ []

unfoldable pub permit_byte : List PermitRecord → ℕ → ℕ
permit_byte ps i = get_or (permit_bytes (get_or ps (i / 4) no_permit)) (i % 4) 0

-- ties: kind, leader, follower, and a byte that is 0
unfoldable pub tie_bytes : TieRecord → List ℕ
tie_bytes t = t.kind ∷ t.leader ∷ t.follower ∷ 0 ∷ []

unfoldable pub tie_byte : List TieRecord → ℕ → ℕ
tie_byte ts i = get_or (tie_bytes (get_or ts (i / 4) no_tie)) (i % 4) 0

-- log: owner, entry, and four bytes of the value before
unfoldable pub record_bytes : LogRecord → List ℕ
record_bytes r = r.owner ∷ r.entry ∷ byte 0 r.before ∷ byte 1 r.before ∷ byte 2 r.before ∷ byte 3 r.before ∷ []

unfoldable pub log_byte : List LogRecord → ℕ → ℕ
log_byte log i = get_or (record_bytes (get_or log (i / 6) no_record)) (i % 6) 0

-- A WINDOW AS BYTES
-- the figures that the header holds
unfoldable pub figures : Window → List ℕ
figures W = W.entries ∷ W.given ∷ length W.log ∷ length W.permits ∷ length W.ties ∷ length W.line ∷ []

-- the sections, each whole
unfoldable pub head_section : List ℕ → List ℕ
head_section figures = table head_size 0 (head_byte figures)

unfoldable pub value_section : (ℕ → ℕ) → List ℕ
value_section value = table values_size 0 (value_byte value)

unfoldable pub change_section : (ℕ → ℕ) → (ℕ → ℕ) → List ℕ
change_section status parent = table changes_size 0 (change_byte status parent)

unfoldable pub line_section : List LineRecord → List ℕ
line_section line = table line_size 0 (line_byte line)

unfoldable pub lock_section : (ℕ → ℕ → ℕ) → List ℕ
lock_section held = table locks_size 0 (lock_byte held)

unfoldable pub permit_section : List PermitRecord → List ℕ
permit_section permits = table permits_size 0 (permit_byte permits)

unfoldable pub tie_section : List TieRecord → List ℕ
tie_section ties = table ties_size 0 (tie_byte ties)

unfoldable pub log_section : List LogRecord → List ℕ
log_section log = table log_size 0 (log_byte log)

-- one after the other, with any figures in the header: what stands in the bytes while a call is at work
unfoldable pub lay : List ℕ → Window → List ℕ
lay figures W = head_section figures ++ (value_section W.value ++ (change_section W.status W.parent ++ (line_section W.line
    ++ (lock_section W.held ++ (permit_section W.permits ++ (tie_section W.ties ++ log_section W.log))))))

-- with its own
unfoldable pub encode : Window → List ℕ
encode W = lay (figures W) W

-- BYTES AS A WINDOW
-- byte i of the section that begins there
unfoldable pub inside : ℕ → List ℕ → ℕ → ℕ
inside start bs i = get_or bs (start + i) 0

-- a number of two bytes and one of four, the lowest first
unfoldable pub join2 : ℕ → ℕ → ℕ
join2 a b = a + b * 256

unfoldable pub join4 : (ℕ → ℕ) → ℕ
join4 f = f 0 + f 1 * 256 + f 2 * 65536 + f 3 * 16777216

-- bit b of x is set
unfoldable pub unpack : ℕ → ℕ → Bool
unpack x b = eqb (x / 2 ^ b % 2) 1

unfoldable pub read_figure : List ℕ → ℕ → ℕ
read_figure bs k = join2 (inside head_at bs (k * 2)) (inside head_at bs (k * 2 + 1))

unfoldable pub read_value : List ℕ → ℕ → ℕ
read_value bs e = cond (ltb e 256) (join4 (λ k. inside values_at bs (e * 4 + k))) 0

unfoldable pub read_status : List ℕ → ℕ → ℕ
read_status bs c = cond (ltb c 256) (inside changes_at bs (c * 4)) 0

unfoldable pub read_parent : List ℕ → ℕ → ℕ
read_parent bs c = cond (ltb c 256) (inside changes_at bs (c * 4 + 1)) 0

-- a writer's bit is 2, a reader's 1; both are read as 2, and `sound_bytes` refuses them
unfoldable pub read_held : List ℕ → ℕ → ℕ → ℕ
read_held bs e c = cond (ltb e 256 && ltb c 256) (cond (unpack (inside locks_at bs (e * 64 + 32 + c / 8)) (c % 8)) 2 (bit (unpack (inside locks_at bs (e * 64 + c / 8)) (c % 8)))) 0

-- record j of a section, by the section's bytes
abbrev pub permit_in : (ℕ → ℕ) → ℕ → PermitRecord
permit_in f j = record { entry = f (j * 4); giver = f (j * 4 + 1); taker = f (j * 4 + 2); ops = f (j * 4 + 3) }

abbrev pub tie_in : (ℕ → ℕ) → ℕ → TieRecord
tie_in f j = record { kind = f (j * 4); leader = f (j * 4 + 1); follower = f (j * 4 + 2) }

abbrev pub waiter_in : (ℕ → ℕ) → ℕ → LineRecord
waiter_in f j = record { change = f (j * 4); entry = f (j * 4 + 1); mode = f (j * 4 + 2) }

abbrev pub record_in : (ℕ → ℕ) → ℕ → LogRecord
record_in f j = record { owner = f (j * 6); entry = f (j * 6 + 1); before = join4 (λ k. f (j * 6 + (k + 2))) }

unfoldable pub read_permit : List ℕ → ℕ → PermitRecord
read_permit bs j = permit_in (inside permits_at bs) j

unfoldable pub read_tie : List ℕ → ℕ → TieRecord
read_tie bs j = tie_in (inside ties_at bs) j

unfoldable pub read_waiter : List ℕ → ℕ → LineRecord
read_waiter bs j = waiter_in (inside line_at bs) j

unfoldable pub read_record : List ℕ → ℕ → LogRecord
read_record bs j = record_in (inside log_at bs) j

unfoldable pub decode : List ℕ → Window
decode bs = record {
  entries = read_figure bs 0;
  given = read_figure bs 1;
  value = read_value bs;
  status = read_status bs;
  parent = read_parent bs;
  held = read_held bs;
  log = table (read_figure bs 2) 0 (read_record bs);
  permits = table (read_figure bs 3) 0 (read_permit bs);
  ties = table (read_figure bs 4) 0 (read_tie bs);
  line = table (read_figure bs 5) 0 (read_waiter bs);
}
