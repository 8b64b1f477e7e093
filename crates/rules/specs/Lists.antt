-- docs/RULES.md, "Lists of calls": the words of demand 3, read off the calls, and the demand. Assumes nothing.
use Rattle.std.specs.Prelude.{◌≡◌, ◌≢◌, Bool, true, not, cond, ◌&&◌, ◌||◌, List, [], ◌∷◌, ◌++◌, ℕ, zero, suc, ◌<◌, max, eqb, length}
use Rattle.rules.specs.Base.{put2, any_below, count_below, all, any, table}
use Rattle.rules.specs.Sets.{reach}
use Rattle.rules.specs.Window.{PermitRecord, is_live, is_ended}
use Rattle.rules.specs.Locks.{clash, permitted, make_permit, add_permit}
use Rattle.rules.specs.Calls.{Call, Open, Commit, Status, Reply, fits}
use Rattle.rules.specs.Effects.{entries_named, move_held, move_permits, released, permits_left}
use Rattle.rules.specs.Events.{Event, Action, opening, initiating, nothing, locking, permitting, delegating, tying, action, is_opening, is_tying, highest_after}

-- "An open answered 0 inside a list starts everything below anew": the calls made since, the last one first
unfoldable pub remember : Event → List Event → List Event
remember e p = e ∷ cond (is_opening (action e)) [] p

-- of anything that takes calls and is left changed: a window by the rules, or memory by `perform`
module _ {S : Type 0} (make : S → Call → Reply S) where
  unfoldable pub event : S → Call → Event
  event s c = record { call = c; answer = (make s c).answer; number = (make s c).number; status = λ d. (make (make s c).after (Status d)).number }

  -- "Each gets the bytes that the last one left": the calls made, after those made before
  unfoldable pub history : S → List Event → List Call → List Event
  history s p [] = p
  history s p (c ∷ l) = history (make s c).after (remember (event s c) p) l

  -- the answers with their second numbers
  unfoldable pub answers : S → List Call → List (ℕ × ℕ)
  answers s [] = []
  answers s (c ∷ l) = ((make s c).answer, (make s c).number) ∷ answers (make s c).after l

-- "A change's status after any part of the list is the second number that a status call would give there"
unfoldable pub status : List Event → ℕ → ℕ
status [] c = 0
status (e ∷ p) c = e.status c

-- "It ends by the call after which that is first 4 or 5": that call's place, from 1; 0 while there is none
unfoldable pub ended_at : List Event → ℕ → ℕ
ended_at [] c = 0
ended_at (e ∷ p) c = cond (eqb (ended_at p c) 0) (cond (is_ended (e.status c)) (suc (length p)) 0) (ended_at p c)

-- the status that it had after that call; 0 while there is none
unfoldable pub ended_as : List Event → ℕ → ℕ
ended_as [] c = 0
ended_as (e ∷ p) c = cond (eqb (ended_at p c) 0) (cond (is_ended (e.status c)) (e.status c) 0) (ended_as p c)

-- "A tie is made by a depend answered 0, and counts as made even when its ends have ended"
unfoldable pub tie_made : List Event → ℕ → ℕ → ℕ → Bool
tie_made p k l f = any (λ e. is_tying k l f (action e)) p

-- "Changes are grouped when made group ties lead from one to the other, either way, in any number of steps"
pub data Grouped (p : List Event) (a : ℕ) : ℕ → Type 0 where
  itself : Grouped p a a
  along : {b c : ℕ} → Grouped p a b → tie_made p 3 b c ≡ true → Grouped p a c
  against : {b c : ℕ} → Grouped p a b → tie_made p 3 c b ≡ true → Grouped p a c

-- "The book has the locks of each change and the standing permits" (a lock table kept by who watches the calls)
pub record Book : Type 0 where
  pub held : ℕ → ℕ → ℕ
  pub permits : List PermitRecord

-- "A lock answered 0 makes the lock held the greater of it and the mode. A permit answered 0 is entered, or its operations united.
-- A delegate answered 0 moves locks and given permits as its rule says"
unfoldable pub enter : Action → Book → Book
enter opening b = b
enter initiating b = b
enter nothing b = b
enter (locking c e m) b = record { held = put2 b.held e c (max (b.held e c) m); permits = b.permits }
enter (permitting g t e o) b = record { held = b.held; permits = add_permit (make_permit g t e o) b.permits }
enter (delegating f t e) b = record { held = move_held f t (entries_named e) b.held; permits = move_permits f t (entries_named e) b.permits }
enter (tying k l f) b = b

-- "Then every ended change loses its locks and the permits it gave or received"
unfoldable pub strike : (ℕ → ℕ) → Book → Book
strike st b = record { held = released (λ c. is_ended (st c)) b.held; permits = permits_left (λ c. is_ended (st c)) b.permits }

-- "none at the start. It is fed each call's arguments, answer and second number, then the statuses"
unfoldable pub book : List Event → Book
book [] = record { held = λ e c. 0; permits = [] }
book (e ∷ p) = strike e.status (enter (action e) (book p))

-- "the highest given"
unfoldable pub highest : List Event → ℕ
highest [] = 0
highest (e ∷ p) = highest_after (action e) e.number (highest p)

-- a test of `Grouped` (proofs/DemandGroups: it says the same)
unfoldable pub is_grouped : List Event → ℕ → ℕ → Bool
is_grouped p = reach (suc (highest p)) (λ a b. tie_made p 3 a b || tie_made p 3 b a)

-- "Live groups …, live changes that are grouped being one": counted by the lowest live change of each
unfoldable pub first_of_group : List Event → ℕ → Bool
first_of_group p c = is_live (status p c) && not (any_below c (λ d. is_live (status p d) && is_grouped p c d))

unfoldable pub live_groups : List Event → ℕ
live_groups p = count_below (suc (highest p)) (first_of_group p)

-- "A walk …: one commit for each number from 1 to the highest given, in rising order": k walks, n the highest given
unfoldable pub walks : ℕ → ℕ → List Call
walks zero n = []
walks (suc k) n = table n 1 Commit ++ walks k n

-- what holds of the calls made so far, in demand 3's words (docs/PROOFS.md) where they are not those of the rules
pub record Kept (p : List Event) : Type 0 where
  -- an end is for good: whoever has ended has the status with which it ended
  pub lasts : (c : ℕ) → ended_at p c ≢ 0 → status p c ≡ ended_as p c
  -- who committed did so in the same call as all it was grouped with
  pub groups : (c d : ℕ) → status p c ≡ 4 → Grouped p c d → (status p d ≡ 4) × (ended_at p d ≡ ended_at p c)
  -- after each leader it must fall with had committed
  pub falls : (c d : ℕ) → status p c ≡ 4 → tie_made p 2 d c ≡ true → (status p d ≡ 4) × (ended_at p d < ended_at p c)
  -- and each it must wait for had ended
  pub waits : (c d : ℕ) → status p c ≡ 4 → tie_made p 1 d c ≡ true → (is_ended (status p d) ≡ true) × (ended_at p d < ended_at p c)
  -- "Two changes whose locks in the book clash on an entry need a permit in the book for that entry, from one of the two to the other or to anybody, that contains the taker's held mode"
  pub clashes : (e a b : ℕ) → a ≢ b → clash ((book p).held e a) ((book p).held e b) ≡ true
      → permitted (book p).permits a b e ((book p).held e b) || permitted (book p).permits b a e ((book p).held e a) ≡ true

-- all live changes are completed
abbrev pub AllCompleted : List Event → Type 0
AllCompleted p = (c : ℕ) → is_live (status p c) ≡ true → status p c ≡ 3

-- demand 3 after the calls l, where `past k` is the history of the calls k
pub record Demand3After (past : List Call → List Event) (l : List Call) : Type 0 where
  pub kept : Kept (past l)
  -- nobody completed can be stuck: as many walks as there are live groups before the first leave all live changes committed
  pub walked : AllCompleted (past l) → (c : ℕ) → is_live (status (past l) c) ≡ true → status (past (l ++ walks (live_groups (past l)) (highest (past l)))) c ≡ 4

-- demand 3, "a single claim about a whole list of calls": whatever was there before, after an open answered 0 and any calls with any arguments
abbrev pub Demand3 : {S : Type 0} → (S → Call → Reply S) → Type 0
Demand3 {S} make = (s : S) (n : ℕ) → (make s (Open n)).answer ≡ 0 → (l : List Call) → all fits l ≡ true → Demand3After (λ k. history make s [] (Open n ∷ k)) l
