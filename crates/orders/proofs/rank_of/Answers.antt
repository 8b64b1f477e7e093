-- `orders::rank_of` meets its contract. Assumes nothing.
use Rattle.std.proofs.Common.{refl}
use Rattle.orders.specs.Ranks.{rank_of}
use Rattle.orders.proofs.rank_of.Goals as goal

pub returns : goal.returns
unfolding rank_of
returns c = refl
