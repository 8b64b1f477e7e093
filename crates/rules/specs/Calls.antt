-- docs/RULES.md, "The calls": their names and arguments, and what each call gives. Assumes nothing.
use Rattle.std.specs.Prelude.{Bool, List, [], ◌∷◌, ℕ, ◌^◌, ltb}
use Rattle.rules.specs.Base.{all}
use Rattle.rules.specs.Window.{Window}

-- a call with its arguments, in the order of "The calls"
pub data Call : Type 0 where
  Open : (entries : ℕ) → Call
  Initiate : (parent : ℕ) → Call
  Begin Complete : (change : ℕ) → Call
  Lock : (change entry mode : ℕ) → Call
  Read : (change entry : ℕ) → Call
  Write : (change entry value : ℕ) → Call
  Permit : (giver taker entry operations : ℕ) → Call
  Delegate : (from to entry : ℕ) → Call
  Depend : (kind leader follower : ℕ) → Call
  Commit Abort Status Parent : (change : ℕ) → Call
  Value : (entry : ℕ) → Call

-- its arguments as numbers
unfoldable pub arguments : Call → List ℕ
arguments (Open n) = n ∷ []
arguments (Initiate p) = p ∷ []
arguments (Begin c) = c ∷ []
arguments (Complete c) = c ∷ []
arguments (Lock c e m) = c ∷ e ∷ m ∷ []
arguments (Read c e) = c ∷ e ∷ []
arguments (Write c e v) = c ∷ e ∷ v ∷ []
arguments (Permit g t e o) = g ∷ t ∷ e ∷ o ∷ []
arguments (Delegate f t e) = f ∷ t ∷ e ∷ []
arguments (Depend k l f) = k ∷ l ∷ f ∷ []
arguments (Commit c) = c ∷ []
arguments (Abort c) = c ∷ []
arguments (Status c) = c ∷ []
arguments (Parent c) = c ∷ []
arguments (Value e) = e ∷ []

-- "All arguments are unsigned 32-bit"
unfoldable pub fits : Call → Bool
fits c = all (λ x. ltb x (2 ^ 32)) (arguments c)

-- "Each call gives an answer and a second number", and leaves something behind: a window, or memory
pub record Reply (S : Type 0) : Type 0 where
  pub answer : ℕ
  pub number : ℕ
  pub after : S

abbrev pub Outcome : Type 0
Outcome = Reply Window

-- "Answer 0 is done", with a second number
unfoldable pub done : ℕ → Window → Outcome
done k W = record { answer = 0; number = k; after = W }

-- another answer, with which "no byte changes"
unfoldable pub unchanged : ℕ → ℕ → Window → Outcome
unchanged a k W = record { answer = a; number = k; after = W }

-- "a blocked lock alters the window by its place in line"
unfoldable pub blocked : ℕ → Window → Outcome
blocked k W = record { answer = 20; number = k; after = W }
