-- `passes::Tie::follows` meets its contract: the test is the definition. Assumes nothing.
use mathlib.Core.Path.{refl}
use Rattle.passes.specs.Passes.{follows}
use Rattle.passes.proofs.Tie.follows.Goals as goal

pub returns : goal.returns
unfolding follows
returns c = refl
