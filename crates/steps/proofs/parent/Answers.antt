-- `steps::parent` meets its contract. Assumes nothing.
use mathlib.Core.Path.{refl, ◌∙◌}
use Rattle.std.proofs.lemmas.Result.{err_from_is_err_and}
use Rattle.rules.specs.Calls.{Parent}
use Rattle.rules.specs.Effects.{effect}
use Rattle.layout.specs.Codec.{decode}
use Rattle.replies.proofs.GiveLaws.{refused_back, let_through}
use Rattle.steps.proofs.LookLaws.{looks}
use Rattle.steps.proofs.parent.Goals as goal

pub returns-in_err-change : goal.returns-in_err-change
returns-in_err-change c = let p = err_from_is_err_and c.from_residual.result c.from_residual.ensures.1 in
    rw (p.1, p.2) (refused_back c.args.view.bytes.now c.args.view.sound (Parent c.args.change) _ c.in_err-change.ensures.parent)

pub returns : goal.returns
returns c = let s = c in
    let_through (decode s.args.view.bytes.now) (Parent s.args.change) c.in_ok-change.ensures.parent
    (looks s.args.view.bytes.now s.args.view.sound _ _ c.done.ensures (Parent s.args.change) (c.from.ensures ∙ c.parent.ensures) (unfold effect in refl))
