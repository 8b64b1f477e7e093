-- The starred calls to try and some beside them, each as one list, for tables of any size that have room for them. By computation. Assumes nothing.
-- `SizeLaws` has the starred ones in which a largest figure plays a part; the last list, checking-order, is for small tables, so that 11 applies too.
use mathlib.Core.Path.{◌≡◌, refl}
use mathlib.Core.List.{List, [], ◌∷◌, map}
use Prim.Native.Nat.{ℕ, suc}
use Rattle.rules.specs.Sets.{only}
use Rattle.rules.specs.Window.{Limits, fresh}
use Rattle.rules.specs.Line.{make_waiter, enter_line}
use Rattle.rules.specs.Calls.{Call, Open, Initiate, Begin, Complete, Lock, Read, Write, Permit, Delegate, Depend, Commit, Abort, Status, Parent, Value}
use Rattle.rules.specs.Effects.{add_record, records_left}
use Rattle.rules.specs.Refusals.{step}
use Rattle.rules.specs.Lists.{answers}
use Rattle.rules.proofs.Computing.{rules}

-- tables with room for two entries, three changes, two records, two permits and two ties
abbrev pub room : ℕ → ℕ → ℕ → ℕ → ℕ → Limits
room e c r p t = record { entries = suc (suc e); changes = suc (suc (suc c)); records = suc (suc r); permits = suc (suc p); ties = suc (suc t) }

-- after open 2, whatever the sizes, these calls have these answers and second numbers
abbrev pub Answered : List Call → List (ℕ × ℕ) → Type 0
Answered l a = (e c r p t : ℕ) → answers (step (room e c r p t)) (fresh 0) (Open 2 ∷ l) ≡ (0, 0) ∷ a

-- "Changes 1 and 2 run"
abbrev pub two : List Call → List Call
two l = Initiate 0 ∷ Initiate 0 ∷ Begin 1 ∷ Begin 2 ∷ l

abbrev pub begun : List (ℕ × ℕ) → List (ℕ × ℕ)
begun l = (0, 1) ∷ (0, 2) ∷ (0, 0) ∷ (0, 0) ∷ l

-- "The whole case above"
pub whole_case : Answered (Initiate 0 ∷ Initiate 0 ∷ Begin 1 ∷ Lock 1 0 2 ∷ Write 1 0 7 ∷ Depend 3 1 2 ∷ Abort 2 ∷ Value 0 ∷ [])
    ((0, 1) ∷ (0, 2) ∷ (0, 0) ∷ (0, 0) ∷ (0, 0) ∷ (0, 0) ∷ (0, 2) ∷ (0, 0) ∷ [])
unfolding rules
whole_case e c r p t = refl

-- "Change 1 writes 7 then 9 to entry 0 and is aborted: value 0"
pub undone : Answered (two (Lock 1 0 2 ∷ Write 1 0 7 ∷ Write 1 0 9 ∷ Abort 1 ∷ Value 0 ∷ []))
    (begun ((0, 0) ∷ (0, 0) ∷ (0, 0) ∷ (0, 1) ∷ (0, 0) ∷ []))
unfolding rules
undone e c r p t = refl

-- "1 holds write, 2 wants read: 20; after permit (1, 2, entry, 1): 0; write still 20"
pub permit_to_read : Answered (two (Lock 1 0 2 ∷ Lock 2 0 1 ∷ Permit 1 2 0 1 ∷ Lock 2 0 1 ∷ Lock 2 0 2 ∷ []))
    (begun ((0, 0) ∷ (20, 1) ∷ (0, 0) ∷ (0, 0) ∷ (20, 1) ∷ []))
unfolding rules
permit_to_read e c r p t = refl

-- "Wait tie led by 1 with follower 2, then the reverse: 9. So is a group tie of the two", named either way
pub reverse_tie : Answered (two (Depend 1 1 2 ∷ Depend 1 2 1 ∷ Depend 3 1 2 ∷ Depend 3 2 1 ∷ []))
    (begun ((0, 0) ∷ (9, 0) ∷ (9, 0) ∷ (9, 0) ∷ []))
unfolding rules
reverse_tie e c r p t = refl

-- "2 completed, fall tie led by 1: commit 2 gives 20 with 1"
pub led : Answered (two (Complete 2 ∷ Depend 2 1 2 ∷ Commit 2 ∷ []))
    (begun ((0, 0) ∷ (0, 0) ∷ (20, 1) ∷ []))
unfolding rules
led e c r p t = refl

-- "1 writes 7 and delegates all to 2; abort 1: value 7; abort 2: value 0"
pub delegated : Answered (two (Lock 1 0 2 ∷ Write 1 0 7 ∷ Delegate 1 2 65535 ∷ Abort 1 ∷ Value 0 ∷ Abort 2 ∷ Value 0 ∷ []))
    (begun ((0, 0) ∷ (0, 0) ∷ (0, 0) ∷ (0, 1) ∷ (0, 7) ∷ (0, 1) ∷ (0, 0) ∷ []))
unfolding rules
delegated e c r p t = refl

-- "1 writes 7, permits 2 to write, 2 locks and writes 9; abort 1: value 0; abort 2: value 0"
pub two-writers : Answered (two (Lock 1 0 2 ∷ Write 1 0 7 ∷ Permit 1 2 0 2 ∷ Lock 2 0 2 ∷ Write 2 0 9 ∷ Abort 1 ∷ Value 0 ∷ Abort 2 ∷ Value 0 ∷ []))
    (begun ((0, 0) ∷ (0, 0) ∷ (0, 0) ∷ (0, 0) ∷ (0, 0) ∷ (0, 1) ∷ (0, 0) ∷ (0, 1) ∷ (0, 0) ∷ []))
unfolding rules
two-writers e c r p t = refl

-- "1 holds write, permits 2 to read, 2 locks to read, 3 is initiated; delegate 2 to 3 of that entry gets 10"
pub unpermitted : Answered (two (Lock 1 0 2 ∷ Permit 1 2 0 1 ∷ Lock 2 0 1 ∷ Initiate 0 ∷ Delegate 2 3 0 ∷ []))
    (begun ((0, 0) ∷ (0, 0) ∷ (0, 0) ∷ (0, 3) ∷ (10, 0) ∷ []))
unfolding rules
unpermitted e c r p t = refl

-- BESIDE THE STARRED ONES
-- a group is more than direct partners, either way and in any number of steps, and commits as one
pub whole_group : Answered (two (Initiate 0 ∷ Begin 3 ∷ Depend 3 1 2 ∷ Depend 3 3 2 ∷ Complete 1 ∷ Complete 2 ∷ Commit 1 ∷ Complete 3 ∷ Commit 1 ∷ Status 1 ∷ Status 2 ∷ Status 3 ∷ []))
    (begun ((0, 3) ∷ (0, 0) ∷ (0, 0) ∷ (0, 0) ∷ (0, 0) ∷ (0, 0) ∷ (20, 3) ∷ (0, 0) ∷ (0, 3) ∷ (0, 4) ∷ (0, 4) ∷ (0, 4) ∷ []))
unfolding rules
whole_group e c r p t = refl

-- a follower waits for a leader that is merely completed
pub leader_completed : Answered (two (Complete 1 ∷ Complete 2 ∷ Depend 2 1 2 ∷ Commit 2 ∷ Commit 1 ∷ Commit 2 ∷ []))
    (begun ((0, 0) ∷ (0, 0) ∷ (0, 0) ∷ (20, 1) ∷ (0, 1) ∷ (0, 1) ∷ []))
unfolding rules
leader_completed e c r p t = refl

-- a fall follower falls with its leader, a wait follower does not; the ended answer 0 with 0, or 21
pub fallen : Answered (two (Initiate 0 ∷ Depend 2 1 2 ∷ Depend 1 1 3 ∷ Abort 1 ∷ Status 2 ∷ Status 3 ∷ Abort 2 ∷ Commit 2 ∷ []))
    (begun ((0, 3) ∷ (0, 0) ∷ (0, 0) ∷ (0, 2) ∷ (0, 5) ∷ (0, 1) ∷ (0, 0) ∷ (21, 0) ∷ []))
unfolding rules
fallen e c r p t = refl

-- a withdrawal strikes no record before the oldest of its own
pub earlier_stays : Answered (two (Lock 1 0 2 ∷ Write 1 0 7 ∷ Permit 1 2 0 2 ∷ Lock 2 0 2 ∷ Write 2 0 9 ∷ Abort 2 ∷ Value 0 ∷ Abort 1 ∷ Value 0 ∷ []))
    (begun ((0, 0) ∷ (0, 0) ∷ (0, 0) ∷ (0, 0) ∷ (0, 0) ∷ (0, 1) ∷ (0, 7) ∷ (0, 1) ∷ (0, 0) ∷ []))
unfolding rules
earlier_stays e c r p t = refl

-- nor one on another entry
pub entries_apart : Answered (two (Lock 1 0 2 ∷ Write 1 0 7 ∷ Lock 2 1 2 ∷ Write 2 1 9 ∷ Abort 1 ∷ Value 1 ∷ Abort 2 ∷ Value 1 ∷ []))
    (begun ((0, 0) ∷ (0, 0) ∷ (0, 0) ∷ (0, 0) ∷ (0, 1) ∷ (0, 9) ∷ (0, 1) ∷ (0, 0) ∷ []))
unfolding rules
entries_apart e c r p t = refl

-- the partner lives on with its lock, and with the room of both records: what it writes then is its own, and is withdrawn with it
pub partner_goes_on : Answered (two (Lock 1 0 2 ∷ Write 1 0 7 ∷ Permit 1 2 0 2 ∷ Lock 2 0 2 ∷ Write 2 0 9 ∷ Abort 1 ∷ Status 2 ∷ Write 2 0 8 ∷ Write 2 0 6 ∷ Value 0 ∷ Abort 2 ∷ Value 0 ∷ []))
    (begun ((0, 0) ∷ (0, 0) ∷ (0, 0) ∷ (0, 0) ∷ (0, 0) ∷ (0, 1) ∷ (0, 2) ∷ (0, 0) ∷ (0, 0) ∷ (0, 6) ∷ (0, 1) ∷ (0, 0) ∷ []))
unfolding rules
partner_goes_on e c r p t = refl

-- a log by itself: 2 and 1 wrote to entry 0, 2 to entry 1, 2 and 1 to entry 0 again. After 1's withdrawal the first and the third record are left
pub records_left_lem : records_left (only 1) (add_record 1 0 9 (add_record 2 0 7 (add_record 2 1 0 (add_record 1 0 5 (add_record 2 0 0 []))))) ≡ add_record 2 1 0 (add_record 2 0 0 [])
unfolding rules
records_left_lem = refl

-- a hand-over, a tie and the first entry together: the withdrawal gives entry 0 its old value back
pub tied_and_delegated : Answered (two (Lock 1 0 2 ∷ Write 1 0 7 ∷ Lock 1 1 2 ∷ Write 1 1 8 ∷ Delegate 1 2 0 ∷ Depend 3 1 2 ∷ Abort 1 ∷ Value 0 ∷ Value 1 ∷ []))
    (begun ((0, 0) ∷ (0, 0) ∷ (0, 0) ∷ (0, 0) ∷ (0, 0) ∷ (0, 0) ∷ (0, 2) ∷ (0, 0) ∷ (0, 0) ∷ []))
unfolding rules
tied_and_delegated e c r p t = refl

-- an existing tie is 0 again, a group tie also when named the other way round
pub tie_twice : Answered (two (Depend 3 2 1 ∷ Depend 3 1 2 ∷ [])) (begun ((0, 0) ∷ (0, 0) ∷ []))
unfolding rules
tie_twice e c r p t = refl

-- a permit given again unites the operations; a write to an entry without a lock gets 8
pub permit_twice : Answered (two (Permit 1 2 0 1 ∷ Permit 1 2 0 2 ∷ Lock 1 0 2 ∷ Lock 2 0 1 ∷ Lock 2 0 2 ∷ Read 2 0 ∷ Write 2 1 5 ∷ []))
    (begun ((0, 0) ∷ (0, 0) ∷ (0, 0) ∷ (0, 0) ∷ (0, 0) ∷ (0, 0) ∷ (8, 0) ∷ []))
unfolding rules
permit_twice e c r p t = refl

-- THE LINES
-- 2 came before 3: 3 is granted only after 2, though nobody holds the entry any longer
pub in_order : Answered (two (Initiate 0 ∷ Begin 3 ∷ Lock 1 0 2 ∷ Lock 2 0 2 ∷ Lock 3 0 1 ∷ Abort 1 ∷ Lock 3 0 1 ∷ Lock 2 0 2 ∷ Lock 3 0 1 ∷ Abort 2 ∷ Lock 3 0 1 ∷ []))
    (begun ((0, 3) ∷ (0, 0) ∷ (0, 0) ∷ (20, 1) ∷ (20, 1) ∷ (0, 1) ∷ (20, 2) ∷ (0, 0) ∷ (20, 2) ∷ (0, 1) ∷ (0, 0) ∷ []))
unfolding rules
in_order e c r p t = refl

-- who stands in a line gets 12 on other entries, also for what it holds; other calls are as before
pub another_line : Answered (two (Lock 2 1 2 ∷ Lock 1 0 2 ∷ Lock 2 0 1 ∷ Lock 2 1 1 ∷ Write 2 1 5 ∷ Abort 1 ∷ Lock 2 1 1 ∷ Lock 2 0 1 ∷ Lock 2 1 1 ∷ []))
    (begun ((0, 0) ∷ (0, 0) ∷ (20, 1) ∷ (12, 0) ∷ (0, 0) ∷ (0, 1) ∷ (12, 0) ∷ (0, 0) ∷ (0, 0) ∷ []))
unfolding rules
another_line e c r p t = refl

-- a reader in line to write leaves by asking to read, which is covered; its place is lost
pub covered_leaves : Answered (two (Lock 1 0 1 ∷ Lock 2 0 1 ∷ Lock 1 0 2 ∷ Lock 2 0 2 ∷ Lock 1 0 1 ∷ Permit 1 2 0 2 ∷ Lock 2 0 2 ∷ []))
    (begun ((0, 0) ∷ (0, 0) ∷ (20, 2) ∷ (20, 1) ∷ (0, 0) ∷ (0, 0) ∷ (0, 0) ∷ []))
unfolding rules
covered_leaves e c r p t = refl

-- "A change that stops running leaves its line": completed, and ended through another
pub stopped : Answered (two (Initiate 0 ∷ Begin 3 ∷ Lock 3 0 2 ∷ Lock 1 0 2 ∷ Lock 2 0 1 ∷ Abort 3 ∷ Lock 2 0 1 ∷ Complete 1 ∷ Lock 2 0 1 ∷ []))
    (begun ((0, 3) ∷ (0, 0) ∷ (0, 0) ∷ (20, 3) ∷ (20, 3) ∷ (0, 1) ∷ (20, 1) ∷ (0, 0) ∷ (0, 0) ∷ []))
unfolding rules
stopped e c r p t = refl

pub fallen_out : Answered (two (Initiate 0 ∷ Begin 3 ∷ Lock 3 0 2 ∷ Lock 1 0 2 ∷ Lock 2 0 1 ∷ Depend 2 3 1 ∷ Abort 3 ∷ Lock 2 0 1 ∷ []))
    (begun ((0, 3) ∷ (0, 0) ∷ (0, 0) ∷ (20, 3) ∷ (20, 3) ∷ (0, 0) ∷ (0, 2) ∷ (0, 0) ∷ []))
unfolding rules
fallen_out e c r p t = refl

-- 3 waits on entry 1 and is not held back by 2, who waits on entry 0 since before
pub own_lines : Answered (two (Initiate 0 ∷ Begin 3 ∷ Lock 1 0 2 ∷ Lock 1 1 2 ∷ Lock 2 0 2 ∷ Lock 3 1 2 ∷ Permit 1 3 1 2 ∷ Lock 3 1 2 ∷ []))
    (begun ((0, 3) ∷ (0, 0) ∷ (0, 0) ∷ (0, 0) ∷ (20, 1) ∷ (20, 1) ∷ (0, 0) ∷ (0, 0) ∷ []))
unfolding rules
own_lines e c r p t = refl

-- "A repeated call keeps its place", whatever the newer mode; and in the line itself
pub place_kept : Answered (two (Initiate 0 ∷ Begin 3 ∷ Lock 1 0 2 ∷ Lock 2 0 2 ∷ Lock 3 0 1 ∷ Lock 2 0 1 ∷ Abort 1 ∷ Lock 3 0 1 ∷ Lock 2 0 1 ∷ Lock 3 0 1 ∷ []))
    (begun ((0, 3) ∷ (0, 0) ∷ (0, 0) ∷ (20, 1) ∷ (20, 1) ∷ (20, 1) ∷ (0, 1) ∷ (20, 2) ∷ (0, 0) ∷ (0, 0) ∷ []))
unfolding rules
place_kept e c r p t = refl

pub newer_mode : enter_line (make_waiter 2 0 1) (make_waiter 2 0 2 ∷ make_waiter 3 0 2 ∷ []) ≡ make_waiter 2 0 1 ∷ make_waiter 3 0 2 ∷ []
unfolding rules
newer_mode = refl

-- WHO IS IN THE WAY
-- 3 wants to write where 1 and 2 read: the lowest of them that has not permitted. 1 wants to write too: 2, who reads, before 3, who is first in line; never 1 itself
pub lowest_holder : Answered (two (Initiate 0 ∷ Begin 3 ∷ Lock 2 0 1 ∷ Lock 1 0 1 ∷ Lock 3 0 2 ∷ Permit 1 3 0 2 ∷ Lock 3 0 2 ∷ Lock 1 0 2 ∷ Permit 2 0 0 2 ∷ Lock 1 0 2 ∷ Lock 3 0 2 ∷ []))
    (begun ((0, 3) ∷ (0, 0) ∷ (0, 0) ∷ (0, 0) ∷ (20, 1) ∷ (0, 0) ∷ (20, 2) ∷ (20, 2) ∷ (0, 0) ∷ (20, 3) ∷ (0, 0) ∷ []))
unfolding rules
lowest_holder e c r p t = refl

-- a holder that has completed is named too
pub completed_holder : Answered (two (Lock 1 0 2 ∷ Complete 1 ∷ Lock 2 0 1 ∷ []))
    (begun ((0, 0) ∷ (0, 0) ∷ (20, 1) ∷ []))
unfolding rules
completed_holder e c r p t = refl

-- "for delegate a permit either way between the two counts and its refusal has 0"
pub either_way : Answered (two (Initiate 0 ∷ Lock 1 0 2 ∷ Permit 1 2 0 1 ∷ Lock 2 0 1 ∷ Delegate 2 3 0 ∷ Delegate 1 3 0 ∷ []))
    (begun ((0, 3) ∷ (0, 0) ∷ (0, 0) ∷ (0, 0) ∷ (10, 0) ∷ (0, 0) ∷ []))
unfolding rules
either_way e c r p t = refl

-- THE CHECKING ORDER
-- tables so small that each can be full
abbrev small : Limits
small = record { entries = 2; changes = 3; records = 2; permits = 1; ties = 1 }

-- each refusal of each call, where it can be on arguments to which later ones apply too, and the numbers of the calls that look:
-- every call with its answer and second number
abbrev tried : List (Call × ℕ × ℕ)
tried =
    (Open 0, 2, 0) ∷ (Open 3, 2, 0) ∷ (Open 2, 0, 0)
    ∷ (Initiate 1, 3, 0) ∷ (Initiate 0, 0, 1) ∷ (Initiate 1, 7, 0)
    ∷ (Begin 0, 3, 0) ∷ (Begin 2, 3, 0) ∷ (Complete 2, 3, 0) ∷ (Complete 1, 7, 0) ∷ (Begin 1, 0, 0) ∷ (Begin 1, 7, 0) ∷ (Initiate 1, 0, 2)
    ∷ (Status 3, 3, 0) ∷ (Status 1, 0, 2) ∷ (Parent 3, 3, 0) ∷ (Parent 2, 0, 1) ∷ (Value 2, 4, 0)
    ∷ (Lock 3 2 3, 3, 0) ∷ (Lock 2 2 3, 4, 0) ∷ (Lock 2 1 3, 5, 0) ∷ (Lock 2 1 0, 5, 0) ∷ (Lock 2 1 1, 7, 0) ∷ (Lock 1 1 1, 0, 0)
    ∷ (Read 3 2, 3, 0) ∷ (Read 2 2, 4, 0) ∷ (Read 2 0, 7, 0) ∷ (Read 1 0, 8, 0)
    ∷ (Write 3 2 5, 3, 0) ∷ (Write 2 2 5, 4, 0) ∷ (Write 2 1 5, 7, 0) ∷ (Write 1 1 5, 8, 0) ∷ (Lock 1 1 2, 0, 0) ∷ (Write 1 1 5, 0, 0)
    ∷ (Write 1 1 6, 0, 0) ∷ (Write 1 1 7, 11, 0) ∷ (Write 1 0 7, 8, 0) ∷ (Read 1 1, 0, 6) ∷ (Value 1, 0, 6)
    ∷ (Permit 3 3 2 4, 3, 0) ∷ (Permit 1 3 2 4, 3, 0) ∷ (Permit 1 1 2 4, 4, 0) ∷ (Permit 1 1 1 4, 5, 0) ∷ (Permit 1 1 1 0, 5, 0) ∷ (Permit 1 1 1 1, 6, 0)
    ∷ (Permit 1 2 1 1, 0, 0) ∷ (Permit 1 0 1 1, 11, 0) ∷ (Permit 1 2 1 2, 0, 0)
    ∷ (Begin 2, 0, 0) ∷ (Initiate 0, 0, 3) ∷ (Initiate 4, 3, 0) ∷ (Initiate 3, 7, 0) ∷ (Initiate 0, 11, 0)
    ∷ (Begin 3, 0, 0) ∷ (Lock 2 1 1, 0, 0) ∷ (Lock 3 1 1, 20, 1) ∷ (Lock 3 2 3, 4, 0) ∷ (Lock 3 0 3, 5, 0) ∷ (Lock 3 0 1, 12, 0) ∷ (Lock 2 1 2, 20, 3) ∷ (Lock 2 1 1, 0, 0)
    ∷ (Delegate 4 4 2, 3, 0) ∷ (Delegate 2 4 2, 3, 0) ∷ (Delegate 2 2 2, 4, 0) ∷ (Delegate 2 2 1, 6, 0) ∷ (Delegate 2 3 1, 10, 0) ∷ (Delegate 2 3 65535, 10, 0)
    ∷ (Depend 4 4 4, 3, 0) ∷ (Depend 4 1 4, 3, 0) ∷ (Depend 4 1 1, 5, 0) ∷ (Depend 0 1 1, 5, 0) ∷ (Depend 2 1 1, 6, 0)
    ∷ (Depend 2 1 2, 0, 0) ∷ (Depend 2 2 1, 9, 0) ∷ (Depend 2 1 3, 11, 0) ∷ (Depend 2 1 2, 0, 0)
    ∷ (Commit 4, 3, 0) ∷ (Commit 2, 20, 1) ∷ (Complete 1, 0, 0) ∷ (Commit 1, 0, 1) ∷ (Commit 1, 0, 0) ∷ (Abort 1, 21, 0) ∷ (Abort 4, 3, 0) ∷ (Complete 1, 7, 0)
    ∷ (Delegate 2 3 1, 0, 0) ∷ (Lock 3 0 1, 12, 0) ∷ (Lock 3 1 2, 0, 0) ∷ (Lock 3 0 1, 0, 0) ∷ (Permit 3 2 1 1, 0, 0) ∷ (Lock 2 1 1, 0, 0) ∷ (Depend 1 2 3, 0, 0)
    ∷ (Permit 1 1 1 1, 6, 0) ∷ (Delegate 1 1 1, 6, 0) ∷ (Depend 1 1 1, 6, 0)
    ∷ (Permit 1 2 1 1, 7, 0) ∷ (Permit 2 1 1 1, 7, 0) ∷ (Delegate 1 2 1, 7, 0) ∷ (Delegate 2 1 1, 7, 0) ∷ (Depend 1 1 2, 7, 0) ∷ (Depend 1 2 1, 7, 0)
    ∷ (Initiate 1, 7, 0) ∷ (Read 1 1, 7, 0) ∷ (Abort 2, 0, 1) ∷ (Commit 2, 21, 0) ∷ (Abort 2, 0, 0)
    ∷ (Status 1, 0, 4) ∷ (Status 2, 0, 5) ∷ (Status 3, 0, 2) ∷ (Parent 2, 0, 1) ∷ (Value 1, 0, 6) ∷ []

pub checking_order : answers (step small) (fresh 0) (map (λ x. x.0) tried) ≡ map (λ x. (x.1, x.2)) tried
unfolding rules
checking_order = refl
