-- `reads::Sound::value` meets its contract. Assumes nothing.
use mathlib.Core.Path.{sym}
use Rattle.rules.specs.Window.{limits}
use Rattle.layout.proofs.SoundCodec.{decode_blank, sound_canonical}
use Rattle.layout.proofs.MemoryLaws.{bytes-sound, values_known}
use Rattle.reads.proofs.Sound.value.Goals as goal

pub returns-then-entry-ge-MOST : goal.returns-then-entry-ge-MOST
unfolding limits
returns-then-entry-ge-MOST c = sym ((decode_blank c.args.self.bytes.now).value c.args.entry c.if-entry-ge-MOST.true)

pub returns : goal.returns
returns c = let c0 = c in c.value.ensures _ (values_known c0.args.self.bytes.now c0.args.self.sound) ((sound_canonical _ (bytes-sound c0.args.self.bytes.now c0.args.self.sound)).value_most _)
