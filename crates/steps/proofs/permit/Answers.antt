-- `steps::permit` meets its contract. Assumes nothing.
use Rattle.std.proofs.lemmas.Result.{err_from_is_err_and}
use Rattle.rules.specs.Calls.{Permit}
use Rattle.layout.specs.Codec.{decode}
use Rattle.replies.proofs.GiveLaws.{refused_back, let_through}
use Rattle.steps.proofs.permit.Goals as goal

pub returns-in_err-permit : goal.returns-in_err-permit
returns-in_err-permit c = let p = err_from_is_err_and c.from_residual.result c.from_residual.ensures.1 in
    rw (p.1, p.2) (refused_back c.args.w.now c.requires (Permit c.args.giver c.args.taker c.args.entry c.args.operations) _ c.in_err-permit.ensures)

pub returns : goal.returns
returns c = let_through (decode c.args.w.now) (Permit c.args.giver c.args.taker c.args.entry c.args.operations) c.in_ok-permit.ensures c.permit-2.ensures
