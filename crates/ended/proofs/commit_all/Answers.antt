-- `ended::commit_all` meets its contract. Assumes nothing.
use Rattle.sets.specs.Members.{members}
use Rattle.ended.proofs.EndLaws.{committed}
use Rattle.ended.proofs.commit_all.Goals as goal

pub returns : goal.returns
returns c = let s = c in
    committed s.args.w.now s.requires.w_value (members s.args.ended) c.drop_log.ensures.w_after c.end_rest.ensures
