-- `steps::abort` meets its contract. Assumes nothing.
use Rattle.std.proofs.lemmas.Result.{err_from_is_err_and}
use Rattle.rules.specs.Calls.{Abort}
use Rattle.layout.specs.Codec.{decode}
use Rattle.replies.proofs.GiveLaws.{refused_back, let_through}
use Rattle.steps.proofs.abort.Goals as goal

pub returns-in_err-change : goal.returns-in_err-change
returns-in_err-change c = let p = err_from_is_err_and c.from_residual.result c.from_residual.ensures.1 in
    rw (p.1, p.2) (refused_back c.args.w.now c.requires (Abort c.args.change) _ c.in_err-change.ensures.abort)

pub returns : goal.returns
returns c = let_through (decode c.args.w.now) (Abort c.args.change) c.in_ok-change.ensures.abort c.abort.ensures
