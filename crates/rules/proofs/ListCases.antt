-- The words of a list of calls, worked out on three lists. Assumes nothing.
use mathlib.Core.Path.{◌≡◌, refl}
use mathlib.Core.Bool.{true, false}
use mathlib.Core.List.{List, [], ◌∷◌, ◌++◌}
use Rattle.rules.specs.Base.{table}
use Rattle.rules.specs.Window.{fresh, limits, is_ended}
use Rattle.rules.specs.Locks.{make_permit}
use Rattle.rules.specs.Calls.{Call, Open, Initiate, Begin, Complete, Lock, Permit, Depend, Abort}
use Rattle.rules.specs.Refusals.{step}
use Rattle.rules.specs.Events.{Event, action_of, action, is_opening, is_tying, is_locking, is_answered, highest_after}
use Rattle.rules.specs.Lists.{status, remember, event, history, ended_at, tie_made, enter, strike, book, highest, is_grouped, first_of_group, live_groups, walks}
use Rattle.rules.specs.Waiting.{waits_since}
use Rattle.rules.proofs.Computing.{rules}

-- one name that opens every word
unfoldable words : Unit {0}
unfolding rules action_of action is_opening is_tying is_locking is_answered highest_after remember event history status is_ended ended_at tie_made enter strike book highest is_grouped first_of_group live_groups walks waits_since
words = tt

-- 1 and 2 are grouped, 3 must fall with 1 and 4 wait for 3; 1 lets 3 write beside it; all complete
abbrev four : List Call
four = Initiate 0 ∷ Initiate 0 ∷ Initiate 0 ∷ Initiate 0 ∷ Depend 3 2 1 ∷ Depend 2 1 3 ∷ Depend 1 3 4 ∷ Begin 1 ∷ Begin 2 ∷ Begin 3 ∷ Begin 4
    ∷ Lock 1 0 2 ∷ Lock 3 0 2 ∷ Permit 1 3 0 2 ∷ Lock 3 0 2 ∷ Complete 1 ∷ Complete 2 ∷ Complete 3 ∷ Complete 4 ∷ []

abbrev told : List Call → List Event
told l = history (step limits) (fresh 0) [] (Open 2 ∷ l)

four-groups : live_groups (told four) ≡ 3
unfolding words
four-groups = refl

four-book : ((book (told four)).held 0 1 ≡ 2) × ((book (told four)).held 0 3 ≡ 2) × ((book (told four)).permits ≡ make_permit 1 3 0 2 ∷ [])
unfolding words
four-book = (refl, refl, refl)

-- one walk is enough here: 1 with 2, then 3, then 4
walked : table 4 1 (ended_at (told (four ++ walks 1 4))) ≡ 21 ∷ 21 ∷ 23 ∷ 24 ∷ []
unfolding words
walked = refl

-- a tie made stays made, and an open starts anew
still_made : tie_made (told (four ++ walks 1 4)) 2 1 3 ≡ true
unfolding words
still_made = refl

anew : (tie_made (told (four ++ Open 1 ∷ [])) 2 1 3 ≡ false) × (highest (told (four ++ Open 1 ∷ [])) ≡ 0)
unfolding words
anew = (refl, refl)

-- against the numbers two walks are needed: 1 waits for 2
abbrev two : List Call
two = Initiate 0 ∷ Initiate 0 ∷ Depend 1 2 1 ∷ Begin 1 ∷ Begin 2 ∷ Complete 1 ∷ Complete 2 ∷ []

two-walks : (live_groups (told two) ≡ 2) × (status (told (two ++ walks 1 2)) 1 ≡ 3) × (status (told (two ++ walks 2 2)) 1 ≡ 4)
unfolding words
two-walks = (refl, refl, refl)

-- 2 waits since call 9, 3 since call 10: asking again does not count, nor does a refused lock; 2 no longer waits when it has the lock, 3 when it completes
abbrev line : List Call
line = Initiate 0 ∷ Initiate 0 ∷ Initiate 0 ∷ Begin 1 ∷ Begin 2 ∷ Begin 3 ∷ Lock 1 0 2 ∷ Lock 2 0 2 ∷ Lock 3 0 1 ∷ Lock 2 0 1 ∷ Lock 2 0 3 ∷ Lock 2 1 1 ∷ []

waiting : (table 3 1 (λ c. waits_since (told line) c 0) ≡ 0 ∷ 9 ∷ 10 ∷ []) × (waits_since (told line) 2 1 ≡ 0)
unfolding words
waiting = (refl, refl)

granted_next : table 3 1 (λ c. waits_since (told (line ++ Abort 1 ∷ Lock 2 0 1 ∷ [])) c 0) ≡ 0 ∷ 0 ∷ 10 ∷ []
unfolding words
granted_next = refl

completed_next : (waits_since (told (line ++ Complete 3 ∷ [])) 3 0 ≡ 0) × (waits_since (told (line ++ Open 1 ∷ [])) 2 0 ≡ 0)
unfolding words
completed_next = (refl, refl)
