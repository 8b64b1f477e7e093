-- `locks::release_touched` meets its contract: an entry that no change of the set holds is the same without it. Assumes nothing.
use mathlib.Core.Path.{sym, ◌∙◌}
use borrow.Author.Rules.{rules}
use Rattle.sets.specs.Members.{members}
use Rattle.locks.proofs.TouchLaws.{untouched}
use Rattle.locks.proofs.release_touched.Goals as goal

pub returns-then-touched : goal.returns-then-touched
returns-then-touched c held says e = c.release_entry.ensures held e

pub returns-else-touched : goal.returns-else-touched
returns-else-touched c held says e = let a = c.args in
    e ∙ untouched held a.entry (members a.ended) a.locks.now a.bytes.now (search rules) says e (rw (← c.from.ensures) (sym c.touched.ensures ∙ c.if-touched.false))
