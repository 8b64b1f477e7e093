-- `Scope::names` meets its contract. Assumes nothing.
use Rattle.rules.specs.Sets.{everything, only}
use Rattle.scope.specs.Entries.{entries_of}
use Rattle.scope.proofs.Scope.names.Goals as goal

pub returns-in-Every : goal.returns-in-Every
unfolding entries_of everything
returns-in-Every c = rw c.in-Every.is

pub returns-in-Only : goal.returns-in-Only
unfolding entries_of only
returns-in-Only c = rw c.in-Only.is
