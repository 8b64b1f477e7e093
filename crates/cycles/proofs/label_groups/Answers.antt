-- `cycles::label_groups` meets its contract: the labels are those of the ties before the place. Assumes nothing.
use Rattle.cycles.specs.Graph.{tie_in_rows, labelled}
use Rattle.cycles.proofs.LabelLaws.{labelled-next}
use Rattle.cycles.proofs.label_groups.Goals as goal

pub loop-tie-init : goal.loop-tie-init
unfolding labelled
loop-tie-init c = c.own_labels.ensures

pub loop-tie-preserved : goal.loop-tie-preserved
unfolding tie_in_rows
loop-tie-preserved c = let l = c.loop-tie in
    labelled-next (tie_in_rows c.args.ties.now) l.tie-index l.labels c.join.new.labels l.invariant c.join.ensures
