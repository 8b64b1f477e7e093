-- `passes::is_arrow` meets its contract: a wait tie, or a fall tie. Assumes nothing.
use mathlib.Core.Path.{refl}
use Rattle.rules.specs.Ties.{is_wait, is_fall, is_arrow}
use Rattle.passes.proofs.is_arrow.Goals as goal

pub returns : goal.returns
unfolding is_arrow is_wait is_fall
returns c = refl
