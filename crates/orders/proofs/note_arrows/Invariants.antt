-- `orders::note_arrows` meets its contract: the arrows of the ties before the place are noted. Assumes nothing.
use Rattle.cycles.specs.Graph.{tie_in_rows}
use Rattle.orders.specs.Ranks.{Led}
use Rattle.orders.proofs.note_arrows.Given as goal

abbrev pub invariant-loop-kind : goal.invariant-loop-kind
invariant-loop-kind l = Led (tie_in_rows l.ties) l.labels l.ranks l.kind-index l.masks
