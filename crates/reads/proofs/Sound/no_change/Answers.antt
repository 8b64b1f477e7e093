-- `reads::Sound::no_change` meets its contract. Assumes nothing.
use Rattle.rules.specs.Window.{no_change}
use Rattle.reads.proofs.Sound.no_change.Goals as goal

pub returns : goal.returns
unfolding no_change
returns c = rw c.given-given.ensures.value
