-- `records::log_record` meets its contract. Assumes nothing.
use Rattle.records.proofs.RecordLaws.{record_logged}
use Rattle.records.proofs.log_record.Goals as goal

pub returns : goal.returns
returns c = let d = c in
    let l = c.append in
    let k = c.store in
    record_logged d.args.w.now d.requires.w_value d.args.change d.args.entry d.args.before d.args.count d.requires.count_value l.new.log k.new.head l.ensures k.ensures
