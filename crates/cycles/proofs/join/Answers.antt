-- `cycles::join` meets its contract: no group tie, ends of one label, or a new label for the follower's group. Assumes nothing.
use Rattle.std.proofs.Common.{get_or}
use Rattle.cycles.proofs.LabelLaws.{joined_none, joined_same, joined_new}
use Rattle.cycles.proofs.join.Goals as goal

pub returns-then-new-old : goal.returns-then-new-old
returns-then-new-old c = let a = c.args in
    joined_new (get_or a.tie 0 0) (get_or a.tie 1 0) (get_or a.tie 2 0) a.labels.now c.relabel.new.labels c.if-kind-eq-GROUP.true c.relabel.ensures

pub returns-else-new-old : goal.returns-else-new-old
returns-else-new-old c = let a = c.args in
    joined_same (get_or a.tie 0 0) (get_or a.tie 1 0) (get_or a.tie 2 0) a.labels.now c.if-kind-eq-GROUP.true c.if-new-old.false

pub returns-else-kind-eq-GROUP : goal.returns-else-kind-eq-GROUP
returns-else-kind-eq-GROUP c = let a = c.args in
    joined_none (get_or a.tie 0 0) (get_or a.tie 1 0) (get_or a.tie 2 0) a.labels.now c.if-kind-eq-GROUP.false
