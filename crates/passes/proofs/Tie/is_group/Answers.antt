-- `passes::Tie::is_group` meets its contract: the test is the definition. Assumes nothing.
use mathlib.Core.Path.{refl}
use Rattle.rules.specs.Ties.{is_group}
use Rattle.passes.proofs.Tie.is_group.Goals as goal

pub returns : goal.returns
unfolding is_group
returns c = refl
