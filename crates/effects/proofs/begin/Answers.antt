-- `effects::begin` meets its contract. Assumes nothing.
use Rattle.rules.specs.Calls.{Begin}
use Rattle.rules.specs.Effects.{effect}
use Rattle.rules.specs.Refusals.{◌if◌, checks}
use Rattle.replies.proofs.GiveLaws.{unrefused}
use Rattle.effects.proofs.begin.Goals as goal

pub set_status-requires : goal.set_status-requires
unfolding checks ◌if◌
set_status-requires c = let s = c in record { w_value = s.requires.w_value; change_value = (unrefused _ (Begin _) s.requires.change_value).0 }

pub returns : goal.returns
unfolding effect
returns c = c.set_status.ensures
