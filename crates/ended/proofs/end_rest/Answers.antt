-- `ended::end_rest` meets its contract. Assumes nothing.
use Rattle.sets.specs.Members.{members}
use Rattle.ended.proofs.EndLaws.{rest_ended}
use Rattle.ended.proofs.end_rest.Goals as goal

pub returns : goal.returns
returns c = let s = c in
    let entries = c.entries-entries in
    let permits = c.permits-permits in
    let ties = c.ties-ties in
    let waiters = c.waiters-waiters in
    rest_ended s.args.w.now s.requires.w_value (members s.args.ended) s.args.how entries.result permits.result ties.result waiters.result entries.ensures.value permits.ensures.value ties.ensures.value waiters.ensures.value
    c.drop_permits.ensures c.drop_ties.ensures c.drop_line.ensures c.set_ended.ensures
