-- `locks::EntryLocks::store` meets its contract: the two sets put in place are the row put in place. Assumes nothing.
use mathlib.Core.Path.{◌∙◌}
use Rattle.sets.specs.Members.{members}
use Rattle.locks.proofs.SectionLaws.{row-stored}
use borrow.Author.Rules.{rules}
use Rattle.locks.proofs.EntryLocks.store.Goals as goal

pub returns : goal.returns
returns c held row e l = let a = c.args in
    c.store-2.ensures
    ∙ rw (c.store.ensures, c.from-at.ensures, e) (row-stored held a.entry row (members a.self.readers) (members a.self.writers) (search rules) l.readers l.writers)
