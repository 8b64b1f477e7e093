-- docs/RULES.md, "What the lines are held to": who waits on an entry and since when, read off the calls as the words of demand 3 are, and the two promises. Assumes nothing.
use Rattle.std.specs.Prelude.{◌≡◌, ◌⊎◌, ◌≢◌, true, false, not, cond, ◌&&◌, ◌||◌, List, [], ◌∷◌, ℕ, suc, ◌<◌, eqb, length}
use Rattle.rules.specs.Base.{all}
use Rattle.rules.specs.Locks.{clash, permitted}
use Rattle.rules.specs.Calls.{Call, Open, Lock, Reply, fits}
use Rattle.rules.specs.Effects.{covers}
use Rattle.rules.specs.Events.{Event, is_answered}
use Rattle.rules.specs.Lists.{history, book}

-- "A change waits on an entry since the call by which a lock of it there was answered 20, as long as no lock of it there is answered 0 after that
-- and it is running after every call since": that call's place in the list, from 1; 0 where it does not wait
unfoldable pub waits_since : List Event → ℕ → ℕ → ℕ
waits_since [] c e = 0
waits_since (x ∷ p) c e = cond (not (eqb (x.status c) 2) || is_answered 0 c e x) 0 (cond (is_answered 20 c e x && eqb (waits_since p c e) 0) (suc (length p)) (waits_since p c e))

-- "still in line"
abbrev pub Waits : List Event → ℕ → ℕ → Type 0
Waits p c e = waits_since p c e ≢ 0

-- "It is first when everybody else who waits there waits since a later call"
pub record First (p : List Event) (c e : ℕ) : Type 0 where
  pub waits : Waits p c e
  pub before : (a : ℕ) → a ≢ c → Waits p a e → waits_since p c e < waits_since p a e

-- what is held to of a call x, made after the calls p
pub record InTurn (p : List Event) (x : Event) : Type 0 where
  -- "No later comer on the entry is granted ahead of an earlier one still in line, a covered mode being no grant": where another waits, who is granted waits too and came before it
  pub order : (a b e m : ℕ) → x.call ≡ Lock b e m → x.answer ≡ 0 → covers ((book p).held e b) m ≡ false → a ≢ b → Waits p a e → Waits p b e × (waits_since p b e < waits_since p a e)
  -- "The first in line gets 0 from its next call for a read or write lock there if every holder that then clashes permits it"
  pub next : (c e m : ℕ) → x.call ≡ Lock c e m → (m ≡ 1) ⊎ (m ≡ 2) → First p c e
      → ((d : ℕ) → d ≢ c → clash ((book p).held e d) m ≡ true → permitted (book p).permits d c e m ≡ true) → x.answer ≡ 0

-- of the last call made
abbrev pub LastInTurn : List Event → Type 0
LastInTurn [] = Unit {0}
LastInTurn (x ∷ p) = InTurn p x

-- whatever was there before, after an open answered 0 and any calls with any arguments: so of every call
abbrev pub Queued : {S : Type 0} → (S → Call → Reply S) → Type 0
Queued {S} make = (s : S) (n : ℕ) → (make s (Open n)).answer ≡ 0 → (l : List Call) → all fits l ≡ true → LastInTurn (history make s [] (Open n ∷ l))
