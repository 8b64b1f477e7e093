-- A sound window, and what a single fault makes of it. Assumes nothing.
use mathlib.Core.Path.{◌≡◌, refl}
use mathlib.Core.Bool.{true, false}
use mathlib.Core.List.{List, [], ◌∷◌, map}
use Prim.Native.Nat.{ℕ}
use lib.ListN.{replicate}
use Rattle.rules.specs.Base.{put, put2}
use Rattle.rules.specs.Window.{Limits, LogRecord, TieRecord, Window, with_value, with_status, with_held, with_log, with_permits, with_ties, with_line}
use Rattle.rules.specs.Locks.{make_permit}
use Rattle.rules.specs.Line.{make_waiter}
use Rattle.rules.specs.Sound.{value_sound, status_sound, parent_sound, held_sound, record_sound, permit_sound, tie_sound, waiter_sound, parts, sound}
use Rattle.rules.proofs.Computing.{rules}

abbrev small : Limits
small = record { entries = 2; changes = 4; records = 2; permits = 3; ties = 3 }

abbrev log1 : ℕ → ℕ → ℕ → LogRecord
log1 o e b = record { owner = o; entry = e; before = b }

abbrev tie1 : ℕ → ℕ → ℕ → TieRecord
tie1 k l f = record { kind = k; leader = l; follower = f }

-- one entry; 1, 2 and 3 live, 2 the child of 1; 1 writes, lets anybody write and 2 read; 2 waits for 1 and is grouped with 3;
-- 2 is in line to write
abbrev good : Window
good = record {
  entries = 1;
  value = put (λ e. 0) 0 7;
  given = 3;
  status = put (put (put (λ c. 0) 1 2) 2 2) 3 3;
  parent = put (λ c. 0) 2 1;
  held = put2 (put2 (λ e c. 0) 0 1 2) 0 2 1;
  log = log1 1 0 0 ∷ [];
  permits = make_permit 1 0 0 2 ∷ make_permit 1 2 0 1 ∷ [];
  ties = tie1 1 1 2 ∷ tie1 3 2 3 ∷ [];
  line = make_waiter 2 0 2 ∷ [];
}

abbrev with_parent : Window → (ℕ → ℕ) → Window
with_parent W x = record { entries = W.entries; value = W.value; given = W.given; status = W.status; parent = x; held = W.held; log = W.log; permits = W.permits; ties = W.ties; line = W.line }

abbrev with_figures : Window → ℕ → ℕ → Window
with_figures W n m = record { entries = n; value = W.value; given = m; status = W.status; parent = W.parent; held = W.held; log = W.log; permits = W.permits; ties = W.ties; line = W.line }

abbrev faults : List Window
faults =
    with_figures good 0 3 ∷ with_figures good 3 3 ∷ with_figures good 1 2 ∷ with_figures good 1 4 ∷ with_figures good 1 5
    ∷ with_value good (put good.value 0 4294967296) ∷ with_value good (put good.value 1 1)
    ∷ with_status good (put good.status 0 1) ∷ with_status good (put good.status 3 0) ∷ with_status good (put good.status 3 6) ∷ with_status good (put good.status 4 1)
    ∷ with_parent good (put good.parent 2 2) ∷ with_parent good (put good.parent 0 1) ∷ with_parent good (put good.parent 4 1)
    ∷ with_held good (put2 good.held 0 1 3) ∷ with_held good (put2 good.held 1 1 1) ∷ with_held good (put2 good.held 0 4 1) ∷ with_held good (put2 good.held 0 0 1)
    ∷ with_held good (put2 good.held 0 1 1) ∷ with_held good (put2 good.held 0 3 1)
    ∷ with_status good (put good.status 1 4) ∷ with_status good (put good.status 2 5) ∷ with_status good (put good.status 3 5)
    ∷ with_log good (log1 2 0 0 ∷ []) ∷ with_log good (log1 1 1 0 ∷ []) ∷ with_log good (log1 1 0 4294967296 ∷ []) ∷ with_log good (log1 1 0 0 ∷ log1 1 0 0 ∷ log1 1 0 0 ∷ [])
    ∷ with_permits good [] ∷ with_permits good (make_permit 2 1 0 1 ∷ []) ∷ with_permits good (make_permit 1 2 0 2 ∷ []) ∷ with_permits good (make_permit 1 2 0 1 ∷ make_permit 1 0 0 2 ∷ [])
    ∷ with_permits good (make_permit 1 2 0 1 ∷ make_permit 1 2 0 2 ∷ []) ∷ with_permits good (make_permit 1 1 0 1 ∷ make_permit 1 2 0 1 ∷ []) ∷ with_permits good (make_permit 1 2 0 1 ∷ make_permit 1 3 0 4 ∷ [])
    ∷ with_permits good (make_permit 1 2 0 1 ∷ make_permit 1 3 0 0 ∷ []) ∷ with_permits good (make_permit 1 2 0 1 ∷ make_permit 1 2 1 1 ∷ []) ∷ with_permits good (make_permit 1 2 0 1 ∷ make_permit 1 4 0 1 ∷ []) ∷ with_permits good (make_permit 0 2 0 1 ∷ make_permit 1 2 0 1 ∷ [])
    ∷ with_ties good (tie1 3 2 3 ∷ tie1 1 1 2 ∷ []) ∷ with_ties good (tie1 1 1 2 ∷ tie1 1 1 2 ∷ []) ∷ with_ties good (tie1 3 3 2 ∷ []) ∷ with_ties good (tie1 1 2 2 ∷ [])
    ∷ with_ties good (tie1 0 1 2 ∷ []) ∷ with_ties good (tie1 4 1 2 ∷ []) ∷ with_ties good (tie1 1 0 2 ∷ []) ∷ with_ties good (tie1 1 1 4 ∷ [])
    ∷ with_ties good (tie1 1 1 2 ∷ tie1 2 2 1 ∷ []) ∷ with_ties good (tie1 1 1 2 ∷ tie1 2 3 1 ∷ tie1 3 2 3 ∷ []) ∷ with_ties good (tie1 1 2 3 ∷ tie1 3 2 3 ∷ [])
    ∷ with_permits good (make_permit 1 0 0 2 ∷ make_permit 1 2 0 1 ∷ make_permit 1 3 0 1 ∷ make_permit 2 1 0 1 ∷ []) ∷ with_ties good (tie1 1 1 2 ∷ tie1 1 1 3 ∷ tie1 2 1 2 ∷ tie1 3 2 3 ∷ [])
    ∷ with_line good (make_waiter 3 0 2 ∷ []) ∷ with_line good (make_waiter 0 0 2 ∷ []) ∷ with_line good (make_waiter 4 0 2 ∷ []) ∷ with_line good (make_waiter 2 1 2 ∷ [])
    ∷ with_line good (make_waiter 2 0 0 ∷ []) ∷ with_line good (make_waiter 2 0 3 ∷ []) ∷ with_line good (make_waiter 2 0 2 ∷ make_waiter 2 0 2 ∷ []) ∷ with_line good (make_waiter 2 0 1 ∷ make_waiter 1 0 2 ∷ make_waiter 2 0 2 ∷ [])
    ∷ []

-- it is sound, also where 2 writes, since anybody may write beside 1 (it may stand in line for what it holds), and where two are in line; no fault is
pub good_sound : map (sound small) (good ∷ with_held good (put2 good.held 0 2 2) ∷ with_line good (make_waiter 2 0 2 ∷ make_waiter 1 0 1 ∷ []) ∷ []) ≡ true ∷ true ∷ true ∷ []
unfolding rules sound parts value_sound status_sound parent_sound held_sound record_sound permit_sound tie_sound waiter_sound
good_sound = refl

pub faults_refused : map (sound small) faults ≡ replicate 59 false
unfolding rules sound parts value_sound status_sound parent_sound held_sound record_sound permit_sound tie_sound waiter_sound
faults_refused = refl
