-- `cycles::renew` meets its contract. Assumes nothing.
use borrow.Author.Tests.{eq-eqb, ne_eqb}
use Rattle.cycles.specs.Graph.{instead}
use Rattle.cycles.proofs.renew.Goals as goal

pub returns-then-x-old : goal.returns-then-x-old
unfolding instead
returns-then-x-old c = rw (eq-eqb _ _ c.if-x-old.true)

pub returns-else-x-old : goal.returns-else-x-old
unfolding instead
returns-else-x-old c = rw (ne_eqb _ _ c.if-x-old.false)
