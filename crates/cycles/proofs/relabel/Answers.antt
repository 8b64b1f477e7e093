-- `cycles::relabel` meets its contract: the labels before the place are renewed. Assumes nothing.
use Rattle.std.proofs.Common.{ap, ◌∙◌, get_or, set, arith}
use Rattle.std.proofs.lemmas.List.{get_or_default}
use Rattle.std.proofs.lemmas.List.Edits.{map_over_more}
use Rattle.cycles.specs.Graph.{instead}
use Rattle.cycles.proofs.relabel.Goals as goal

pub loop-label-preserved : goal.loop-label-preserved
loop-label-preserved c = let l = c.loop-label in
    let x = get_or l.labels l.label-index 0 in
    ap (λ v. set l.labels l.label-index v) c.renew.ensures
    ∙ map_over_more (instead c.args.old c.args.new) c.args.labels.now l.labels l.label-index x (omega arith) l.invariant (get_or_default l.labels l.label-index 0 x (omega arith))
