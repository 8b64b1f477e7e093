-- `steps::commit` meets its contract. Assumes nothing.
use Rattle.std.proofs.lemmas.Result.{err_from_is_err_and}
use Rattle.rules.specs.Calls.{Commit}
use Rattle.layout.specs.Codec.{decode}
use Rattle.replies.proofs.GiveLaws.{refused_back, let_through}
use Rattle.steps.proofs.commit.Goals as goal

pub returns-in_err-change : goal.returns-in_err-change
returns-in_err-change c = let p = err_from_is_err_and c.from_residual.result c.from_residual.ensures.1 in
    rw (p.1, p.2) (refused_back c.args.w.now c.requires (Commit c.args.change) _ c.in_err-change.ensures.commit)

pub returns : goal.returns
returns c = let_through (decode c.args.w.now) (Commit c.args.change) c.in_ok-change.ensures.commit c.commit.ensures
