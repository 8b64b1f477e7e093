-- `beside::contains` meets its contract: the mode, or both. Assumes nothing.
use mathlib.Core.Path.{refl}
use Rattle.rules.specs.Locks.{contains}
use Rattle.beside.proofs.contains.Goals as goal

pub returns : goal.returns
unfolding contains
returns c = refl
