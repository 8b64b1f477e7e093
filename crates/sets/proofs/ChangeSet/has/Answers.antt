-- `sets::ChangeSet::has` meets its contract: a set has what its words have. Assumes nothing.
use Rattle.sets.specs.Members.{members}
use Rattle.sets.proofs.ChangeSet.has.Goals as goal

pub returns : goal.returns
unfolding members
returns c = c.among.ensures
