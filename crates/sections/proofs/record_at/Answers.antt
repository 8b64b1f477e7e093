-- `sections::record_at` meets its contract. Assumes nothing.
use Rattle.sections.specs.Fits.{record_fits}
use Rattle.sections.proofs.record_at.Goals as goal

pub returns : goal.returns
unfolding record_fits
returns c = c.is_writer.ensures
