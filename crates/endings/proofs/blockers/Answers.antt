-- `endings::blockers` meets its contract. Assumes nothing.
use Rattle.sets.specs.Members.{members}
use Rattle.endings.proofs.CallLaws.{blockers_read}
use Rattle.endings.proofs.blockers.Goals as goal

pub returns : goal.returns
returns c = let s = c in
    let given = c.given-given in
    let completed = c.with_status-completed in
    let unfinished = c.minus-unfinished in
    let ties = c.ties-ties in
    let leaders = c.leaders-leaders in
    blockers_read s.args.view.bytes.now s.args.view.sound given.result ties.result (members s.args.group) (members completed.result) (members unfinished.result) (members leaders.result) (members c.unite.result)
    given.ensures.value ties.ensures.value completed.ensures leaders.ensures unfinished.ensures c.unite.ensures
