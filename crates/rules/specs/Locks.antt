-- docs/RULES.md, "Locks", "Permits" and "Who is in the way": which locks clash, who permits whom, who is in the way of a lock, and the permits kept in order. Assumes nothing.
use Rattle.std.specs.Prelude.{Bool, not, cond, ◌&&◌, ◌||◌, List, ℕ, suc, ltb, eqb}
use Rattle.rules.specs.Base.{lowest_or_zero, all_below, any, insert}
use Rattle.rules.specs.Sets.{Set}
use Rattle.rules.specs.Window.{PermitRecord, Window, permit_key}

-- "Two changes' locks on one entry clash when both are held and at least one is write" (lock modes conflict)
unfoldable pub clash : ℕ → ℕ → Bool
clash a b = ltb 0 a && ltb 0 b && (eqb a 2 || eqb b 2)

-- operations contain a mode: "1 read, 2 write, 3 both"
unfoldable pub contains : ℕ → ℕ → Bool
contains ops mode = eqb ops mode || eqb ops 3

-- the giver has a permit (a leave to conflict) on the entry, "to this change or to anybody, that contains the mode"
unfoldable pub permitted : List PermitRecord → ℕ → ℕ → ℕ → ℕ → Bool
permitted ps giver taker entry mode = any (λ p. eqb p.giver giver && (eqb p.taker taker || eqb p.taker 0) && eqb p.entry entry && contains p.ops mode) ps

-- the holders of an entry whose locks clash with a mode
unfoldable pub clashing : Window → ℕ → ℕ → Set
clashing W e m d = clash (W.held e d) m

-- those of them that are in the way of c: the others that have not permitted
unfoldable pub blocking : Set → Set → ℕ → Set
blocking clashes permits c d = not (eqb d c) && clashes d && not (permits d)

-- "The test for a clash gives the lowest numbered holder that clashes and has not permitted", 0 where there is none. Who has permitted is given:
-- a lock and a delegate ask for different permits
unfoldable pub blocker_of : Window → Set → ℕ → ℕ → ℕ → ℕ
blocker_of W permits c e m = lowest_or_zero (suc W.given) (blocking (clashing W e m) permits c)

-- of two changes, "a permit from one of the two to the other, or to anybody, that contains the taker's held mode"
unfoldable pub either_permits : Window → ℕ → ℕ → ℕ → Bool
either_permits W e a b = permitted W.permits a b e (W.held e b) || permitted W.permits b a e (W.held e a)

-- "each clashing pair", on every entry: nobody is in the way of a lock that is held (pair by pair in proofs/PairLaws)
unfoldable pub clashes_permitted : Window → Bool
clashes_permitted W = all_below W.entries (λ e. all_below (suc W.given) (λ c. eqb (blocker_of W (λ d. either_permits W e d c) c e (W.held e c)) 0))

-- a permit as the call names it
unfoldable pub make_permit : ℕ → ℕ → ℕ → ℕ → PermitRecord
make_permit g t e o = record { giver = g; taker = t; entry = e; ops = o }

-- "One permit for each giver, taker and entry; a second unites the operations"
unfoldable pub unite_permits : PermitRecord → PermitRecord → PermitRecord
unite_permits p q = record { giver = q.giver; taker = q.taker; entry = q.entry; ops = cond (contains q.ops p.ops) q.ops 3 }

-- "Kept in rising order of entry, giver, taker"
unfoldable pub add_permit : PermitRecord → List PermitRecord → List PermitRecord
add_permit = insert permit_key unite_permits
