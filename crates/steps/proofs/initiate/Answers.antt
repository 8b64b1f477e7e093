-- `steps::initiate` meets its contract. Assumes nothing.
use Rattle.std.proofs.lemmas.Result.{err_from_is_err_and}
use Rattle.rules.specs.Calls.{Initiate}
use Rattle.layout.specs.Codec.{decode}
use Rattle.replies.proofs.GiveLaws.{refused_back, let_through}
use Rattle.steps.proofs.initiate.Goals as goal

pub returns-in_err-initiate : goal.returns-in_err-initiate
returns-in_err-initiate c = let p = err_from_is_err_and c.from_residual.result c.from_residual.ensures.1 in
    rw (p.1, p.2) (refused_back c.args.w.now c.requires (Initiate c.args.parent) _ c.in_err-initiate.ensures)

pub returns : goal.returns
returns c = let_through (decode c.args.w.now) (Initiate c.args.parent) c.in_ok-initiate.ensures c.initiate-2.ensures
