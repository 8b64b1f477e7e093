-- `reads::Sound::permits` meets its contract. Assumes nothing.
use Rattle.reads.proofs.ReadLaws.{permits_read}
use Rattle.reads.proofs.Sound.permits.Goals as goal

pub returns : goal.returns
returns c = let r = permits_read c.args.self.bytes.now c.args.self.sound _ c.read.ensures in record { value = r.0; upper_bound = r.1 }
