-- `records::enter_permit` meets its contract. Assumes nothing.
use Rattle.records.proofs.RecordLaws.{permit_entered}
use Rattle.records.proofs.enter_permit.Goals as goal

pub returns : goal.returns
returns c = let d = c in
    let t = c.add-count in
    let k = c.store in
    permit_entered d.args.w.now d.requires.w_value d.args.giver d.args.taker d.args.entry d.args.operations d.args.before t.result d.requires.permits_value d.requires.before_value t.new.permits k.new.head t.ensures.tabled k.ensures
