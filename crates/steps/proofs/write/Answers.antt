-- `steps::write` meets its contract. Assumes nothing.
use Rattle.std.proofs.lemmas.Result.{err_from_is_err_and}
use Rattle.rules.specs.Calls.{Write}
use Rattle.layout.specs.Codec.{decode}
use Rattle.replies.proofs.GiveLaws.{refused_back, let_through}
use Rattle.steps.proofs.write.Goals as goal

pub returns-in_err-write : goal.returns-in_err-write
returns-in_err-write c = let p = err_from_is_err_and c.from_residual.result c.from_residual.ensures.1 in
    rw (p.1, p.2) (refused_back c.args.w.now c.requires (Write c.args.change c.args.entry c.args.value) _ (c.in_err-write.ensures c.args.value))

pub returns : goal.returns
returns c = let_through (decode c.args.w.now) (Write c.args.change c.args.entry c.args.value) (c.in_ok-write.ensures c.args.value) c.write-2.ensures
