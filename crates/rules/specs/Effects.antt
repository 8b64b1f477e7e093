-- docs/RULES.md, "The calls": what a call that is not turned back does. Assumes nothing.
use Rattle.std.specs.Prelude.{Bool, not, cond, ◌&&◌, ◌||◌, ℕ, suc, max, leb, eqb}
use mathlib.Core.List.{List, [], ◌∷◌, ◌++◌, map, foldr}
use Rattle.rules.specs.Base.{put, put2, any_below, count_below, lowest_below, any, keep}
use Rattle.rules.specs.Sets.{Set, only, put_all}
use Rattle.rules.specs.Window.{LogRecord, PermitRecord, TieRecord, Window, fresh, with_value, with_status, with_held, with_log, with_permits, with_ties, with_line}
use Rattle.rules.specs.Locks.{permitted, blocker_of, make_permit, add_permit}
use Rattle.rules.specs.Ties.{is_arrow, make_tie, add_tie, group_of, end_set}
use Rattle.rules.specs.Line.{make_waiter, other_first, enter_line, line_left}
use Rattle.rules.specs.Calls.{Call, Open, Initiate, Begin, Complete, Lock, Read, Write, Permit, Delegate, Depend, Commit, Abort, Status, Parent, Value, Outcome, done, unchanged, blocked}

-- INITIATE
-- "Changes, numbered 1, 2, 3 as they are initiated. A number is never given twice": the next number, with status 1
unfoldable pub add_change : Window → ℕ → Window
add_change W p = record {
  entries = W.entries;
  value = W.value;
  given = suc W.given;
  status = put W.status (suc W.given) 1;
  parent = put W.parent (suc W.given) p;
  held = W.held;
  log = W.log;
  permits = W.permits;
  ties = W.ties;
  line = W.line;
}

-- COMPLETE
-- "A change that stops running leaves its line"
unfoldable pub leave : Window → ℕ → Window
leave W c = with_line W (line_left (only c) W.line)

unfoldable pub complete_change : Window → ℕ → Window
complete_change W c = with_status (leave W c) (put W.status c 3)

-- LOCK
-- "0 if a lock held already covers the mode": "Write covers read"
unfoldable pub covers : ℕ → ℕ → Bool
covers held mode = leb mode held

-- "granted if each other holder whose lock clashes with the mode has a permit, to this change or to anybody, that contains the mode":
-- the lowest holder that has none
unfoldable pub lock_blocker : Window → ℕ → ℕ → ℕ → ℕ
lock_blocker W c e m = blocker_of W (λ d. permitted W.permits d c e m) c e m

-- who keeps a lock from being granted, 0 where nobody does: "A blocked lock reports it as second number; where there is none, it reports the first in line"
unfoldable pub in_the_way : Window → ℕ → ℕ → ℕ → ℕ
in_the_way W c e m = cond (eqb (lock_blocker W c e m) 0) (other_first W.line c e) (lock_blocker W c e m)

-- "a lock not already covered is granted exactly when every clashing holder permits it and no other change is first in line"
unfoldable pub lock_granted : Window → ℕ → ℕ → ℕ → Bool
lock_granted W c e m = eqb (in_the_way W c e m) 0

-- a lock on an entry, in the place of the one held
unfoldable pub put_held : Window → ℕ → ℕ → ℕ → Window
put_held W e c m = with_held W (put2 W.held e c m)

-- "A lock call that would be blocked puts its change at the end of that entry's line, with its mode"
unfoldable pub wait : Window → ℕ → ℕ → ℕ → Window
wait W c e m = with_line W (enter_line (make_waiter c e m) W.line)

-- "0 if a lock held already covers the mode. Otherwise granted if … Otherwise 20, and the change stands in line";
-- "a grant leaves the line", and a mode already covered "takes the change out of that entry's line"
unfoldable pub lock_entry : Window → ℕ → ℕ → ℕ → Outcome
lock_entry W c e m = cond (covers (W.held e c) m) (done 0 (leave W c)) (cond (lock_granted W c e m) (done 0 (leave (put_held W e c m) c)) (blocked (in_the_way W c e m) (wait W c e m)))

-- WRITE
-- "adds a log record": at the end
unfoldable pub add_record : ℕ → ℕ → ℕ → List LogRecord → List LogRecord
add_record owner entry before l = l ++ (record { owner = owner; entry = entry; before = before } ∷ [])

-- "adds a log record with the old value, then stores, equal values too"
unfoldable pub write_entry : Window → ℕ → ℕ → ℕ → Window
write_entry W c e v = with_log (with_value W (put W.value e v)) (add_record c e (W.value e) W.log)

-- DELEGATE (delegation)
-- "65,535 is every entry"
unfoldable pub every : ℕ
every = 65535

-- the entries that a delegate names
unfoldable pub entries_named : ℕ → Set
entries_named entry e = eqb entry every || eqb e entry

-- "moves … locks … A lock meets one already held as the greater"
unfoldable pub move_held : ℕ → ℕ → Set → (ℕ → ℕ → ℕ) → ℕ → ℕ → ℕ
move_held from to on held e c = cond (on e) (cond (eqb c to) (max (held e from) (held e to)) (cond (eqb c from) 0 (held e c))) (held e c)

-- "moves log ownership": one record, and the log
unfoldable pub moved_record : ℕ → ℕ → Set → LogRecord → LogRecord
moved_record from to on r = cond (eqb r.owner from && on r.entry) (record { owner = to; entry = r.entry; before = r.before }) r

unfoldable pub move_log : ℕ → ℕ → Set → List LogRecord → List LogRecord
move_log from to on = map (moved_record from to on)

-- "the permits that *from* has given", on a set of entries
unfoldable pub permit_given : ℕ → Set → PermitRecord → Bool
permit_given from on p = eqb p.giver from && on p.entry

-- "A permit that would be from *to* to itself is dropped"
unfoldable pub permit_moves : ℕ → ℕ → Set → PermitRecord → Bool
permit_moves from to on p = permit_given from on p && not (eqb p.taker to)

-- "Permits received do not move", nor those that others have given
unfoldable pub permit_kept : ℕ → Set → PermitRecord → Bool
permit_kept from on p = not (permit_given from on p)

unfoldable pub moved_permit : ℕ → PermitRecord → PermitRecord
moved_permit to p = record { giver = to; taker = p.taker; entry = p.entry; ops = p.ops }

-- "moves … the permits that *from* has given", each entered as if *to* gave it
unfoldable pub move_permits : ℕ → ℕ → Set → List PermitRecord → List PermitRecord
move_permits from to on ps = foldr add_permit (keep (permit_kept from on) ps) (map (moved_permit to) (keep (permit_moves from to on) ps))

-- "moves log ownership, locks and the permits that *from* has given", on a set of entries
unfoldable pub hand_over : Window → ℕ → ℕ → Set → Window
hand_over W from to on = record {
  entries = W.entries;
  value = W.value;
  given = W.given;
  status = W.status;
  parent = W.parent;
  held = move_held from to on W.held;
  log = move_log from to on W.log;
  permits = move_permits from to on W.permits;
  ties = W.ties;
  line = W.line;
}

-- COMMIT AND ABORT
-- "An ended change loses its locks, log records, ties, and permits given and received. Remaining records close up in order"; "A change that stops running leaves its line":
-- what is left of each when the changes of a set end
unfoldable pub released : Set → (ℕ → ℕ → ℕ) → ℕ → ℕ → ℕ
released s held e = put_all s 0 (held e)

unfoldable pub is_unowned : Set → LogRecord → Bool
is_unowned s r = not (s r.owner)

unfoldable pub unowned : Set → List LogRecord → List LogRecord
unowned s = keep (is_unowned s)

unfoldable pub permit_stays : Set → PermitRecord → Bool
permit_stays s p = not (s p.giver || s p.taker)

unfoldable pub permits_left : Set → List PermitRecord → List PermitRecord
permits_left s = keep (permit_stays s)

unfoldable pub tie_stays : Set → TieRecord → Bool
tie_stays s t = not (s t.leader || s t.follower)

unfoldable pub ties_left : Set → List TieRecord → List TieRecord
ties_left s = keep (tie_stays s)

-- the changes of a set end, as committed (4) or aborted (5)
unfoldable pub end_all : ℕ → Set → Window → Window
end_all how s W = record {
  entries = W.entries;
  value = W.value;
  given = W.given;
  status = put_all s how W.status;
  parent = W.parent;
  held = released s W.held;
  log = unowned s W.log;
  permits = permits_left s W.permits;
  ties = ties_left s W.ties;
  line = line_left s W.line;
}

-- "how many changes this call ended"
unfoldable pub size : Window → Set → ℕ
size W s = count_below (suc W.given) s

-- "all leaders of wait or fall ties to any member": whether c leads a member by a tie, and by one of a list
unfoldable pub leads_to : Set → ℕ → TieRecord → Bool
leads_to g c t = is_arrow t.kind && eqb t.leader c && g t.follower

unfoldable pub leaders_of : List TieRecord → Set → Set
leaders_of ts g c = any (leads_to g c) ts

-- "the members of its group that are not completed, and all leaders of wait or fall ties to any member"
unfoldable pub commit_blockers : Window → Set → Set
commit_blockers W g c = g c && not (eqb (W.status c) 3) || leaders_of W.ties g c

-- "If there is any, the answer is 20, its second number is the lowest change number in that set, and no byte changes. If there is none, the whole group becomes committed"
unfoldable pub commit_group : Window → Set → Outcome
commit_group W g = cond (any_below (suc W.given) (commit_blockers W g)) (unchanged 20 (lowest_below (suc W.given) (commit_blockers W g)) W) (done (size W g) (end_all 4 g W))

-- "if committed, 0 with 0. If aborted, 21"
unfoldable pub commit_change : Window → ℕ → Outcome
commit_change W c = cond (eqb (W.status c) 4) (done 0 W) (cond (eqb (W.status c) 5) (unchanged 21 0 W) (commit_group W (group_of W c)))

-- "On each entry, the oldest record owned by the ended set gives the value stored, and every later record on that entry, whoever owns it, is struck from the log":
-- whether a record is "owned by the ended set" and on that entry
unfoldable pub owned_on : Set → ℕ → LogRecord → Bool
owned_on s e r = s r.owner && eqb e r.entry

-- "the oldest record owned by the ended set gives the value stored"; where there is none, the value is as before
unfoldable pub undo : Set → List LogRecord → (ℕ → ℕ) → ℕ → ℕ
undo s [] v e = v e
undo s (r ∷ l) v e = cond (owned_on s e r) r.before (undo s l v e)

-- a record on another entry
unfoldable pub is_elsewhere : ℕ → LogRecord → Bool
is_elsewhere e r = not (eqb r.entry e)

-- "every later record on that entry, whoever owns it, is struck from the log", as is the record itself
unfoldable pub records_left : Set → List LogRecord → List LogRecord
records_left s [] = []
records_left s (r ∷ l) = cond (s r.owner) (keep (is_elsewhere r.entry) (records_left s l)) (r ∷ records_left s l)

-- the two together, and nothing else: "The partner stays live and keeps its lock"
unfoldable pub withdraw : Set → Window → Window
withdraw s W = with_log (with_value W (undo s W.log W.value)) (records_left s W.log)

-- "the call ends the least set": withdrawn, then ended as aborted
unfoldable pub abort_all : Window → Set → Outcome
abort_all W s = done (size W s) (end_all 5 s (withdraw s W))

-- "if aborted, 0 with 0. If committed, 21"
unfoldable pub abort_change : Window → ℕ → Outcome
abort_change W c = cond (eqb (W.status c) 5) (done 0 W) (cond (eqb (W.status c) 4) (unchanged 21 0 W) (abort_all W (end_set W c)))

-- each call, in the order of "The calls"
unfoldable pub effect : Window → Call → Outcome
effect W (Open n) = done 0 (fresh n)
effect W (Initiate p) = done (suc W.given) (add_change W p)
effect W (Begin c) = done 0 (with_status W (put W.status c 2))
effect W (Complete c) = done 0 (complete_change W c)
effect W (Lock c e m) = lock_entry W c e m
effect W (Read c e) = done (W.value e) W
effect W (Write c e v) = done 0 (write_entry W c e v)
effect W (Permit g t e o) = done 0 (with_permits W (add_permit (make_permit g t e o) W.permits))
effect W (Delegate f t e) = done 0 (hand_over W f t (entries_named e))
effect W (Depend k l f) = done 0 (with_ties W (add_tie (make_tie k l f) W.ties))
effect W (Commit c) = commit_change W c
effect W (Abort c) = abort_change W c
effect W (Status c) = done (W.status c) W
effect W (Parent c) = done (W.parent c) W
effect W (Value e) = done (W.value e) W
