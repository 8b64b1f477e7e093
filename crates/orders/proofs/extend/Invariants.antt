-- `orders::extend` meets its contract: after r turns the first r places are copied. Assumes nothing.
use Rattle.orders.specs.Ways.{Extended}
use Rattle.orders.proofs.extend.Given as goal

abbrev pub invariant-loop-r : goal.invariant-loop-r
invariant-loop-r l = Extended l.size l.r l.mask l.initial.blocked l.blocked
