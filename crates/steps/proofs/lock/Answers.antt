-- `steps::lock` meets its contract. Assumes nothing.
use Rattle.std.proofs.lemmas.Result.{err_from_is_err_and}
use Rattle.rules.specs.Calls.{Lock}
use Rattle.layout.specs.Codec.{decode}
use Rattle.replies.proofs.GiveLaws.{refused_back, let_through}
use Rattle.steps.proofs.lock.Goals as goal

pub returns-in_err-lock : goal.returns-in_err-lock
returns-in_err-lock c = let p = err_from_is_err_and c.from_residual.result c.from_residual.ensures.1 in
    rw (p.1, p.2) (refused_back c.args.w.now c.requires (Lock c.args.change c.args.entry c.args.mode) _ c.in_err-lock.ensures)

pub returns : goal.returns
returns c = let_through (decode c.args.w.now) (Lock c.args.change c.args.entry c.args.mode) c.in_ok-lock.ensures c.lock-2.ensures
