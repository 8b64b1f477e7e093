-- `records::enter_tie` meets its contract. Assumes nothing.
use Rattle.records.proofs.RecordLaws.{tie_entered}
use Rattle.records.proofs.enter_tie.Goals as goal

pub returns : goal.returns
returns c = let d = c in
    let t = c.add-count in
    let k = c.store in
    tie_entered d.args.w.now d.requires.w_value d.args.kind d.args.leader d.args.follower d.args.before t.result d.requires.ties_value d.requires.before_value t.new.ties k.new.head t.ensures.tabled k.ensures
