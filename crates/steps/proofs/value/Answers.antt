-- `steps::value` meets its contract. Assumes nothing.
use mathlib.Core.Path.{refl}
use Rattle.std.proofs.lemmas.Result.{err_from_is_err_and}
use Rattle.rules.specs.Calls.{Value}
use Rattle.rules.specs.Effects.{effect}
use Rattle.layout.specs.Codec.{decode}
use Rattle.replies.proofs.GiveLaws.{refused_back, let_through}
use Rattle.steps.proofs.LookLaws.{looks}
use Rattle.steps.proofs.value.Goals as goal

pub returns-in_err-value : goal.returns-in_err-value
returns-in_err-value c = let p = err_from_is_err_and c.from_residual.result c.from_residual.ensures.1 in
    rw (p.1, p.2) (refused_back c.args.view.bytes.now c.args.view.sound (Value c.args.entry) _ c.in_err-value.ensures)

pub returns : goal.returns
returns c = let s = c in
    let_through (decode s.args.view.bytes.now) (Value s.args.entry) c.in_ok-value.ensures
    (looks s.args.view.bytes.now s.args.view.sound _ _ c.done.ensures (Value s.args.entry) c.value-2.ensures (unfold effect in refl))
