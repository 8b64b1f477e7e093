-- docs/RULES.md, "Turned back, in checking order" (refused calls), and the call as a whole. Assumes nothing.
-- Refusal 1 is about memory: the crate layout's `perform`.
use Rattle.std.specs.Prelude.{Bool, not, cond, ◌&&◌, ◌||◌, List, [], ◌∷◌, ℕ, zero, suc, ltb, eqb, length}
use Rattle.rules.specs.Base.{exceeds, outside}
use Rattle.rules.specs.Window.{Limits, Window, no_change, no_entry, live, running}
use Rattle.rules.specs.Locks.{make_permit, add_permit, clashes_permitted}
use Rattle.rules.specs.Ties.{make_tie, add_tie, acyclic}
use Rattle.rules.specs.Line.{waits_elsewhere}
use Rattle.rules.specs.Calls.{Call, Open, Initiate, Begin, Complete, Lock, Read, Write, Permit, Delegate, Depend, Commit, Abort, Status, Parent, Value, Outcome, unchanged}
use Rattle.rules.specs.Effects.{every, entries_named, hand_over, effect}

-- a refusal's number, and whether it applies
pub record Check : Type 0 where
  pub code : ℕ
  pub fails : Bool

infix 68 ◌if◌
unfoldable pub ◌if◌ : ℕ → Bool → Check
◌if◌ a b = record { code = a; fails = b }

-- "2. The number of entries is not 1 to 256"
-- "3. A change number is 0 or above the highest given, except that initiate's parent and permit's taker may be 0"
-- "4. An entry number is not below the number of entries, except 65,535 in delegate"
-- "5. A mode, operations or kind is not one of its values"
-- "6. The two changes of a permit, delegate or depend are the same"
-- "7. A status does not suit: begin takes 1; complete, lock, read and write take 2; a parent other than 0 must be 2; permit, delegate and depend take live ones, taker 0 apart"
-- "12. The change stands in another entry's line, checked after 7, for lock only"
-- "8. A read has no lock on the entry, or a write no write lock"
-- "9. The new tie would let a path of arrows return to its group"
-- "10. After the delegate some clashing pair would have no permit as soundness wants it"
-- "11. The result would exceed a largest figure" (a delegate's never does: proofs/SoundDelegate)
unfoldable pub checks : Limits → Window → Call → List Check
checks L W (Open n) = 2 if (ltb n 1 || exceeds n L.entries) ∷ []
checks L W (Initiate p) = 3 if ltb W.given p ∷ 7 if not (eqb p 0 || running W p) ∷ 11 if exceeds (suc W.given) L.changes ∷ []
checks L W (Begin c) = 3 if no_change W c ∷ 7 if not (eqb (W.status c) 1) ∷ []
checks L W (Complete c) = 3 if no_change W c ∷ 7 if not (running W c) ∷ []
checks L W (Lock c e m) = 3 if no_change W c ∷ 4 if no_entry W e ∷ 5 if outside 1 2 m ∷ 7 if not (running W c) ∷ 12 if waits_elsewhere W.line c e ∷ []
checks L W (Read c e) = 3 if no_change W c ∷ 4 if no_entry W e ∷ 7 if not (running W c) ∷ 8 if eqb (W.held e c) 0 ∷ []
checks L W (Write c e v) = 3 if no_change W c ∷ 4 if no_entry W e ∷ 7 if not (running W c) ∷ 8 if not (eqb (W.held e c) 2) ∷ 11 if exceeds (suc (length W.log)) L.records ∷ []
checks L W (Permit g t e o) =
    3 if no_change W g ∷ 3 if ltb W.given t ∷ 4 if no_entry W e ∷ 5 if outside 1 3 o ∷ 6 if eqb g t
    ∷ 7 if not (live W g) ∷ 7 if not (eqb t 0 || live W t) ∷ 11 if exceeds (length (add_permit (make_permit g t e o) W.permits)) L.permits ∷ []
checks L W (Delegate f t e) =
    3 if no_change W f ∷ 3 if no_change W t ∷ 4 if (not (eqb e every) && no_entry W e) ∷ 6 if eqb f t
    ∷ 7 if not (live W f && live W t) ∷ 10 if not (clashes_permitted (hand_over W f t (entries_named e))) ∷ []
checks L W (Depend k l f) =
    3 if no_change W l ∷ 3 if no_change W f ∷ 5 if outside 1 3 k ∷ 6 if eqb l f ∷ 7 if not (live W l && live W f)
    ∷ 9 if not (acyclic (suc W.given) (add_tie (make_tie k l f) W.ties)) ∷ 11 if exceeds (length (add_tie (make_tie k l f) W.ties)) L.ties ∷ []
checks L W (Commit c) = 3 if no_change W c ∷ []
checks L W (Abort c) = 3 if no_change W c ∷ []
checks L W (Status c) = 3 if no_change W c ∷ []
checks L W (Parent c) = 3 if no_change W c ∷ []
checks L W (Value e) = 4 if no_entry W e ∷ []

-- the first refusal that applies, in checking order; 0 if none does
unfoldable pub first_failed : List Check → ℕ
first_failed [] = 0
first_failed (k ∷ l) = cond k.fails k.code (first_failed l)

-- a refused call changes nothing and has second number 0
unfoldable pub settle : ℕ → Window → Outcome → Outcome
settle zero W o = o
settle (suc a) W o = unchanged (suc a) 0 W

-- a call on a window
unfoldable pub step : Limits → Window → Call → Outcome
step L W c = settle (first_failed (checks L W c)) W (effect W c)
