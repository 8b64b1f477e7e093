-- `records::permit` meets its contract. Assumes nothing.
use Rattle.rules.specs.Effects.{effect}
use Rattle.replies.proofs.GiveLaws.{given-done}
use Rattle.records.proofs.ArgumentLaws.{permit_known}
use Rattle.records.proofs.permit.Goals as goal

pub overflow_cast-giver : goal.overflow_cast-giver
overflow_cast-giver c = record { fits = (permit_known c.args.w.now c.requires.w_value c.args.giver c.args.taker c.args.entry c.args.operations c.requires.operations_value).0 }

pub overflow_cast-taker : goal.overflow_cast-taker
overflow_cast-taker c = record { fits = (permit_known c.args.w.now c.requires.w_value c.args.giver c.args.taker c.args.entry c.args.operations c.requires.operations_value).1 }

pub overflow_cast-entry : goal.overflow_cast-entry
overflow_cast-entry c = record { fits = (permit_known c.args.w.now c.requires.w_value c.args.giver c.args.taker c.args.entry c.args.operations c.requires.operations_value).2 }

pub overflow_cast-operations : goal.overflow_cast-operations
overflow_cast-operations c = record { fits = (permit_known c.args.w.now c.requires.w_value c.args.giver c.args.taker c.args.entry c.args.operations c.requires.operations_value).3 }

pub enter_permit-requires : goal.enter_permit-requires
enter_permit-requires c = let s = c in
    let n = c.permits-before in record { w_value = s.requires.w_value; before_value = n.ensures.value; before_bound = n.ensures.upper_bound; permits_value = (permit_known s.args.w.now s.requires.w_value s.args.giver s.args.taker s.args.entry s.args.operations s.requires.operations_value).4 }

pub returns : goal.returns
unfolding effect
returns c = given-done 0 _ c.done.result _ c.done.ensures c.enter_permit.ensures
