-- `locks::holders` meets its contract: its readers and its writers. Assumes nothing.
use mathlib.Core.Path.{◌∙◌}
use Rattle.locks.specs.Held.{Modes}
use Rattle.locks.proofs.RowLaws.{row_holders}
use Rattle.locks.proofs.holders.Goals as goal

pub returns : goal.returns
unfolding Modes
returns c held modes e k = c.unite.ensures k ∙ rw (c.held_in.ensures held e k, c.held_in-2.ensures held e k) (row_holders (held c.args.entry) (modes c.args.entry) k)
