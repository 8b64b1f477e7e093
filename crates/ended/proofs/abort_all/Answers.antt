-- `ended::abort_all` meets its contract. Assumes nothing.
use Rattle.sets.specs.Members.{members}
use Rattle.ended.proofs.EndLaws.{aborted}
use Rattle.ended.proofs.abort_all.Goals as goal

pub returns : goal.returns
returns c = let s = c in
    aborted s.args.w.now s.requires.w_value (members s.args.ended) c.withdraw.ensures.w_after c.end_rest.ensures
