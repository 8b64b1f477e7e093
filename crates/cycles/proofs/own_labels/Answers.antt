-- `cycles::own_labels` meets its contract: the labels before k are in place. Assumes nothing.
use Rattle.std.proofs.Common.{sym, arith}
use Rattle.layout.proofs.SectionLaws.{table_list}
use Rattle.cycles.specs.Graph.{own_labels}
use Rattle.cycles.proofs.own_labels.Goals as goal

pub returns : goal.returns
unfolding own_labels
returns c = sym (table_list 0 c.loop-k.labels (λ k. k) c.loop-k.invariant.0 (λ k h. sym (c.loop-k.invariant.1 k (omega arith))))
