-- `cycles::relabel` meets its contract: the labels before the place are renewed. Assumes nothing.
use Rattle.std.proofs.Common.{◌≡◌, map, ◌++◌, take, drop}
use Rattle.cycles.specs.Graph.{instead}
use Rattle.cycles.proofs.relabel.Given as goal

abbrev pub invariant-loop-label : goal.invariant-loop-label
invariant-loop-label l = l.labels ≡ map (instead l.old l.new) (take l.label-index l.initial.labels) ++ drop l.label-index l.initial.labels
