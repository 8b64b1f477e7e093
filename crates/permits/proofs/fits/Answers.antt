-- `permits::fits` meets its contract: the row of the permit fits. Assumes nothing.
use Rattle.permits.proofs.PermitLaws.{permits-rising, permits_fit}
use Rattle.permits.proofs.fits.Goals as goal

pub returns : goal.returns
returns c ps len is rise operations = let s = c in
    let a = s.args in
    permits_fit ps a.count a.permits.now len is s.requires.count_bound a.giver a.taker a.entry operations c.has_room.result
    (c.has_room.ensures (permits-rising ps a.count a.permits.now len is s.requires.count_bound rise) operations)
