-- `row_sections::permit_at` meets its contract. Assumes nothing.
use Rattle.rules.specs.Locks.{make_permit}
use Rattle.layout.specs.Records.{permit_at}
use Rattle.row_sections.proofs.permit_at.Goals as goal

pub returns : goal.returns
unfolding permit_at make_permit
returns c = c.permit.ensures
