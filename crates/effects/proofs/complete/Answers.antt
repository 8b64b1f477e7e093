-- `effects::complete` meets its contract: the change leaves its line, and the bytes are sound again before its status is stored. Assumes nothing.
use Rattle.rules.specs.Calls.{Complete}
use Rattle.rules.specs.Refusals.{◌if◌, checks}
use Rattle.replies.proofs.GiveLaws.{unrefused}
use Rattle.effects.proofs.EffectLaws.{left_bytes, left_given, complete_given}
use Rattle.effects.proofs.complete.Goals as goal

pub leave_line-requires : goal.leave_line-requires
unfolding checks ◌if◌
leave_line-requires c = let s = c in record { w_value = s.requires.w_value; change_value = (unrefused _ (Complete _) s.requires.change_value).0 }

pub set_status-requires : goal.set_status-requires
unfolding checks ◌if◌
set_status-requires c = let s = c in
    let l = c.leave_line in
    let a = s.args in record { w_value = left_bytes a.w.now s.requires.w_value a.change _ l.ensures; change_value = left_given a.w.now s.requires.w_value a.change _ l.ensures (unrefused _ (Complete _) s.requires.change_value).0 }

pub returns : goal.returns
returns c = let s = c in
    let l = c.leave_line in
    complete_given s.args.w.now s.requires.w_value s.args.change _ l.ensures _ _ c.set_status.ensures
