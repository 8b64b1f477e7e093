-- `reads::Sound::held` meets its contract. Assumes nothing.
use mathlib.Core.Path.{sym}
use Rattle.rules.specs.Window.{limits}
use Rattle.layout.proofs.SoundCodec.{decode_blank}
use Rattle.layout.proofs.MemoryLaws.{locks_known}
use Rattle.reads.proofs.ReadLaws.{modes_known}
use Rattle.reads.proofs.Sound.held.Goals as goal

pub returns-then-entry-ge-MOST : goal.returns-then-entry-ge-MOST
unfolding limits
returns-then-entry-ge-MOST c = sym ((decode_blank c.args.self.bytes.now).held-entry c.args.entry c.args.change c.if-entry-ge-MOST.true)

pub returns-then-change-gt-MOST : goal.returns-then-change-gt-MOST
unfolding limits
returns-then-change-gt-MOST c = sym ((decode_blank c.args.self.bytes.now).held-change c.args.entry c.args.change c.if-change-gt-MOST.true)

pub returns : goal.returns
returns c = c.mode.ensures _ (modes_known c.args.self.bytes.now c.args.self.sound) (locks_known c.args.self.bytes.now c.args.self.sound)
