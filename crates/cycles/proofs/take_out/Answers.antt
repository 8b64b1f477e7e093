-- `cycles::take_out` meets its contract. Assumes nothing.
use Rattle.sets.specs.Members.{members}
use Rattle.cycles.proofs.take_out.Goals as goal

pub returns : goal.returns
unfolding members
returns c = c.remove.ensures.by_index
