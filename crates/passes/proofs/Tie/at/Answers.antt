-- `passes::Tie::at` meets its contract. Assumes nothing.
use mathlib.Core.Path.{refl}
use Rattle.layout.specs.Records.{tie_at}
use Rattle.passes.proofs.Tie.at.Goals as goal

pub returns : goal.returns
unfolding tie_at
returns c = refl
