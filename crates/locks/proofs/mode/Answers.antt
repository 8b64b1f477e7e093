-- `locks::mode` meets its contract: the two bits of the change are its lock. Assumes nothing.
use borrow.Author.Rules.{rules}
use Rattle.locks.proofs.SectionLaws.{mode_read}
use Rattle.locks.proofs.mode.Goals as goal

pub returns : goal.returns
returns c held modes e = rw (e, c.from.ensures, c.from-2.ensures) (mode_read held c.args.entry c.args.change modes (search rules) (search rules))
