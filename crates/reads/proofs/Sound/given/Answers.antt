-- `reads::Sound::given` meets its contract. Assumes nothing.
use Rattle.reads.proofs.ReadLaws.{given_read}
use Rattle.reads.proofs.Sound.given.Goals as goal

pub returns : goal.returns
returns c = let r = given_read c.args.self.bytes.now c.args.self.sound _ c.read.ensures in record { value = r.0; upper_bound = r.1 }
