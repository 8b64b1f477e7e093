-- `row_sections::tie_at` meets its contract. Assumes nothing.
use Rattle.layout.specs.Records.{tie_at}
use Rattle.row_sections.proofs.tie_at.Goals as goal

pub returns : goal.returns
unfolding tie_at
returns c = rw c.tie.ensures
