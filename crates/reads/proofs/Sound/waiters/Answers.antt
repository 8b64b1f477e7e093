-- `reads::Sound::waiters` meets its contract. Assumes nothing.
use Rattle.reads.proofs.ReadLaws.{waiters_read}
use Rattle.reads.proofs.Sound.waiters.Goals as goal

pub returns : goal.returns
returns c = let r = waiters_read c.args.self.bytes.now c.args.self.sound _ c.read.ensures in record { value = r.0; upper_bound = r.1 }
