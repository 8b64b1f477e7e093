-- `steps::depend` meets its contract. Assumes nothing.
use Rattle.std.proofs.lemmas.Result.{err_from_is_err_and}
use Rattle.rules.specs.Calls.{Depend}
use Rattle.layout.specs.Codec.{decode}
use Rattle.replies.proofs.GiveLaws.{refused_back, let_through}
use Rattle.steps.proofs.depend.Goals as goal

pub returns-in_err-depend : goal.returns-in_err-depend
returns-in_err-depend c = let p = err_from_is_err_and c.from_residual.result c.from_residual.ensures.1 in
    rw (p.1, p.2) (refused_back c.args.w.now c.requires (Depend c.args.kind c.args.leader c.args.follower) _ c.in_err-depend.ensures)

pub returns : goal.returns
returns c = let_through (decode c.args.w.now) (Depend c.args.kind c.args.leader c.args.follower) c.in_ok-depend.ensures c.depend-2.ensures
