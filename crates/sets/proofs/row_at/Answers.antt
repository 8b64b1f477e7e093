-- `sets::row_at` meets its contract: the four words of the row. Assumes nothing.
use Rattle.sets.proofs.SpreadLaws.{row-set}
use Rattle.sets.proofs.row_at.Goals as goal

pub returns : goal.returns
returns c = let a = c.args in rw c.from-i.ensures (row-set a.rows.now a.c)
