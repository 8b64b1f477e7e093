-- `reads::Sound::is_running` meets its contract. Assumes nothing.
use Rattle.rules.specs.Window.{running}
use Rattle.reads.proofs.Sound.is_running.Goals as goal

pub returns : goal.returns
unfolding running
returns c = rw c.status.ensures
