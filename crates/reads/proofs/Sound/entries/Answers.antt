-- `reads::Sound::entries` meets its contract. Assumes nothing.
use Rattle.reads.proofs.ReadLaws.{entries_read}
use Rattle.reads.proofs.Sound.entries.Goals as goal

pub returns : goal.returns
returns c = let r = entries_read c.args.self.bytes.now c.args.self.sound _ c.read.ensures in record { value = r.0; upper_bound = r.1 }
