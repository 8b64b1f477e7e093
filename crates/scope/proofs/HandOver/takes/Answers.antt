-- `HandOver::takes` meets its contract. Assumes nothing.
use Rattle.scope.specs.Entries.{takes}
use Rattle.scope.proofs.HandOver.takes.Goals as goal

pub returns : goal.returns
unfolding takes
returns c = rw c.names.ensures
