-- `rows::key_at` meets its contract: the row's first three bytes are its key. Assumes nothing.
use Rattle.rows.specs.Rows.{rank, row_at}
use Rattle.rows.proofs.key_at.Goals as goal

pub returns : goal.returns
unfolding rank row_at
returns c = c.rank.ensures
