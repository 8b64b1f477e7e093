-- `locks::clashing` meets its contract: the mode 2 clashes with every lock, another with the writers'. Assumes nothing.
use mathlib.Core.Path.{◌∙◌}
use Rattle.locks.specs.Held.{Modes}
use Rattle.locks.proofs.RowLaws.{row-clashing_write, row-clashing_other}
use Rattle.locks.proofs.clashing.Goals as goal

pub returns-then-mode-write : goal.returns-then-mode-write
unfolding Modes
returns-then-mode-write c held modes p e k = c.holders.ensures held modes e k ∙ rw c.if-mode-write.true (row-clashing_write (held c.args.entry) (modes c.args.entry) k)

pub returns-else-mode-write : goal.returns-else-mode-write
unfolding Modes
returns-else-mode-write c held modes p e k = c.held_in.ensures held e k ∙ row-clashing_other (held c.args.entry) (modes c.args.entry) c.args.mode p c.if-mode-write.false k
