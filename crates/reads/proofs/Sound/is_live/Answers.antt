-- `reads::Sound::is_live` meets its contract. Assumes nothing.
use mathlib.Core.Path.{◌∙◌}
use Rattle.reads.proofs.ReadLaws.{live_read}
use Rattle.reads.proofs.Sound.is_live.Goals as goal

pub returns : goal.returns
returns c = live_read _ _ _ _ _ c.given-given.ensures.value (c.from.ensures ∙ c.status-status.ensures) c.outside.ensures
