-- `cycles::label_groups` meets its contract: the labels are those of the ties before the place. Assumes nothing.
use Rattle.std.proofs.Common.{◌≡◌}
use Rattle.cycles.specs.Graph.{own_labels, tie_in_rows, labelled}
use Rattle.cycles.proofs.label_groups.Given as goal

abbrev pub invariant-loop-tie : goal.invariant-loop-tie
invariant-loop-tie l = l.labels ≡ labelled (tie_in_rows l.ties) l.tie-index own_labels
