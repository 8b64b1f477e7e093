-- A permit's row is entry, giver, taker, operations: who gave it, who may use it, and where it goes in a delegate. Assumes nothing.
use Rattle.std.specs.Prelude.{Bool, not, ◌&&◌, ◌||◌, ℕ, eqb}
use Rattle.rules.specs.Sets.{Set}
use Rattle.rules.specs.Locks.{contains}
use Rattle.rows.specs.Rows.{Row, row}

-- a change gave it, on an entry of a set
unfoldable pub given_by : ℕ → Set → Row → Bool
given_by from on r = eqb r.k2 from && on r.k1

-- it moves to another giver, unless it would be from `to` to itself
unfoldable pub moves : ℕ → ℕ → Set → Row → Bool
moves from to on r = given_by from on r && not (eqb r.k3 to)

-- it stays as it is
unfoldable pub stays : ℕ → Set → Row → Bool
stays from on r = not (given_by from on r)

-- as another's
unfoldable pub with_giver : ℕ → Row → Row
with_giver to r = row r.k1 to r.k3 r.more

-- it is to the taker, or to anybody, and contains the mode
unfoldable pub serves : ℕ → ℕ → Row → Bool
serves taker mode r = (eqb r.k3 taker || eqb r.k3 0) && contains r.more mode
