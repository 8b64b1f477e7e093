-- `records::write` meets its contract. Assumes nothing.
use native.Mathlib.Omega.{arith}
use Rattle.records.proofs.ArgumentLaws.{write_known}
use Rattle.records.proofs.RecordLaws.{write_given}
use Rattle.records.proofs.write.Goals as goal

pub overflow_cast-change : goal.overflow_cast-change
overflow_cast-change c = record { fits = (write_known c.args.w.now c.requires.w_value c.args.change c.args.entry c.args.value c.requires.value_value).0 }

pub overflow_cast-entry : goal.overflow_cast-entry
overflow_cast-entry c = record { fits = (write_known c.args.w.now c.requires.w_value c.args.change c.args.entry c.args.value c.requires.value_value).1 }

pub overflow_cast-entry-2 : goal.overflow_cast-entry-2
overflow_cast-entry-2 c = record { fits = (write_known c.args.w.now c.requires.w_value c.args.change c.args.entry c.args.value c.requires.value_value).1 }

pub log_record-requires : goal.log_record-requires
log_record-requires c = let d = c in
    let n = c.records-count in record { w_value = d.requires.w_value; count_value = n.ensures.value; count_bound = omega (arith, n.ensures.value, (write_known d.args.w.now d.requires.w_value d.args.change d.args.entry d.args.value d.requires.value_value).2) }

pub returns : goal.returns
returns c = let d = c in
    let v = c.value-before in
    let l = c.log_record in
    let x = c.store_value in
    write_given _ c.done.result d.args.change d.args.entry d.args.value v.result v.ensures l.ensures x.new.values x.ensures c.done.ensures
