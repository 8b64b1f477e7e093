-- `reads::Sound::status` meets its contract. Assumes nothing.
use mathlib.Core.Path.{sym}
use Rattle.rules.specs.Window.{limits}
use Rattle.layout.proofs.MemoryLaws.{changes_known}
use Rattle.layout.proofs.SoundCodec.{decode_blank}
use Rattle.reads.proofs.Sound.status.Goals as goal

pub returns-then-change-gt-MOST : goal.returns-then-change-gt-MOST
unfolding limits
returns-then-change-gt-MOST c = sym ((decode_blank c.args.self.bytes.now).status c.args.change c.if-change-gt-MOST.true)

pub returns : goal.returns
returns c = c.status.ensures _ _ (changes_known c.args.self.bytes.now c.args.self.sound)
