-- `reads::Sound::no_entry` meets its contract. Assumes nothing.
use Rattle.rules.specs.Window.{no_entry}
use Rattle.reads.proofs.Sound.no_entry.Goals as goal

pub returns : goal.returns
unfolding no_entry
returns c = rw c.entries.ensures.value
