-- `reads::outside` meets its contract. Assumes nothing.
use mathlib.Core.Path.{refl}
use Rattle.rules.specs.Base.{outside as isOutside}
use Rattle.reads.proofs.outside.Goals as goal

pub returns : goal.returns
returns c = unfold isOutside in refl
