-- docs/RULES.md, "Lists of calls": a call made, and what the words of demand 3 and of the lines look at in it. Assumes nothing.
use Rattle.std.specs.Prelude.{Bool, true, false, cond, ◌&&◌, ℕ, max, eqb}
use Rattle.rules.specs.Calls.{Call, Open, Initiate, Begin, Complete, Lock, Read, Write, Permit, Delegate, Depend, Commit, Abort, Status, Parent, Value}

-- a call made: its arguments, answer and second number, and the statuses that status calls would give after it
pub record Event : Type 0 where
  pub call : Call
  pub answer : ℕ
  pub number : ℕ
  pub status : ℕ → ℕ

-- what the words look at: opens, initiates, what the book enters, ties made
pub data Action : Type 0 where
  opening initiating nothing : Action
  locking : (change entry mode : ℕ) → Action
  permitting : (giver taker entry operations : ℕ) → Action
  delegating : (from to entry : ℕ) → Action
  tying : (kind leader follower : ℕ) → Action

unfoldable pub action_of : Call → Action
action_of (Open n) = opening
action_of (Initiate p) = initiating
action_of (Begin c) = nothing
action_of (Complete c) = nothing
action_of (Lock c e m) = locking c e m
action_of (Read c e) = nothing
action_of (Write c e v) = nothing
action_of (Permit g t e o) = permitting g t e o
action_of (Delegate f t e) = delegating f t e
action_of (Depend k l f) = tying k l f
action_of (Commit c) = nothing
action_of (Abort c) = nothing
action_of (Status c) = nothing
action_of (Parent c) = nothing
action_of (Value e) = nothing

-- "answered 0": "Any other call, or any other answer, enters nothing"
unfoldable pub action : Event → Action
action e = cond (eqb e.answer 0) (action_of e.call) nothing

-- "An open answered 0"
unfoldable pub is_opening : Action → Bool
is_opening opening = true
is_opening initiating = false
is_opening nothing = false
is_opening (locking c e m) = false
is_opening (permitting g t e o) = false
is_opening (delegating f t e) = false
is_opening (tying k l f) = false

-- an open, whatever it answers
unfoldable pub is_open : Call → Bool
is_open c = is_opening (action_of c)

-- "a depend answered 0" of this kind, leader and follower
unfoldable pub is_tying : ℕ → ℕ → ℕ → Action → Bool
is_tying k l f opening = false
is_tying k l f initiating = false
is_tying k l f nothing = false
is_tying k l f (locking c e m) = false
is_tying k l f (permitting g t e o) = false
is_tying k l f (delegating h t e) = false
is_tying k l f (tying k' l' f') = eqb k k' && eqb l l' && eqb f f'

-- a lock of this change on this entry
unfoldable pub is_locking : ℕ → ℕ → Action → Bool
is_locking c e opening = false
is_locking c e initiating = false
is_locking c e nothing = false
is_locking c e (locking d x m) = eqb c d && eqb e x
is_locking c e (permitting g t x o) = false
is_locking c e (delegating f t x) = false
is_locking c e (tying k l f) = false

-- such a lock, answered so
unfoldable pub is_answered : ℕ → ℕ → ℕ → Event → Bool
is_answered answer c e x = eqb x.answer answer && is_locking c e (action_of x.call)

-- "the highest given" after an action with second number n, h before it
unfoldable pub highest_after : Action → ℕ → ℕ → ℕ
highest_after opening n h = h
highest_after initiating n h = max n h
highest_after nothing n h = h
highest_after (locking c e m) n h = h
highest_after (permitting g t e o) n h = h
highest_after (delegating f t e) n h = h
highest_after (tying k l f) n h = h
