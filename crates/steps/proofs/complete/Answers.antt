-- `steps::complete` meets its contract. Assumes nothing.
use Rattle.std.proofs.lemmas.Result.{err_from_is_err_and}
use Rattle.rules.specs.Calls.{Complete}
use Rattle.layout.specs.Codec.{decode}
use Rattle.replies.proofs.GiveLaws.{refused_back, let_through}
use Rattle.steps.proofs.complete.Goals as goal

pub returns-in_err-complete : goal.returns-in_err-complete
returns-in_err-complete c = let p = err_from_is_err_and c.from_residual.result c.from_residual.ensures.1 in
    rw (p.1, p.2) (refused_back c.args.w.now c.requires (Complete c.args.change) _ c.in_err-complete.ensures)

pub returns : goal.returns
returns c = let_through (decode c.args.w.now) (Complete c.args.change) c.in_ok-complete.ensures c.complete-2.ensures
