-- `steps::begin` meets its contract. Assumes nothing.
use Rattle.std.proofs.lemmas.Result.{err_from_is_err_and}
use Rattle.rules.specs.Calls.{Begin}
use Rattle.layout.specs.Codec.{decode}
use Rattle.replies.proofs.GiveLaws.{refused_back, let_through}
use Rattle.steps.proofs.begin.Goals as goal

pub returns-in_err-begin : goal.returns-in_err-begin
returns-in_err-begin c = let p = err_from_is_err_and c.from_residual.result c.from_residual.ensures.1 in
    rw (p.1, p.2) (refused_back c.args.w.now c.requires (Begin c.args.change) _ c.in_err-begin.ensures)

pub returns : goal.returns
returns c = let_through (decode c.args.w.now) (Begin c.args.change) c.in_ok-begin.ensures c.begin-2.ensures
