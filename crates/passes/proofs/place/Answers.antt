-- `passes::place` meets its contract: the definition by cases. Assumes nothing.
use Rattle.passes.specs.Passes.{place_from}
use Rattle.passes.proofs.place.Goals as goal

pub returns-then-back : goal.returns-then-back
unfolding place_from
returns-then-back c = rw c.if-back.true

pub returns-else-back : goal.returns-else-back
unfolding place_from
returns-else-back c = rw c.if-back.false
