-- `locks::held_in` meets its contract: the first 32 bytes of the entry are the readers, the other 32 the writers. Assumes nothing.
use mathlib.Core.Path.{◌∙◌}
use Prim.Native.Nat.{◌+◌, ◌*◌}
use native.Mathlib.Omega.{arith}
use borrow.Author.Rules.{rules}
use Rattle.locks.proofs.SectionLaws.{row_loaded}
use Rattle.locks.proofs.held_in.Goals as goal

pub returns-in-Read : goal.returns-in-Read
returns-in-Read c held e k = c.load.ensures k ∙ rw (c.in-Read.is, e) (row_loaded held c.args.entry 0 (c.from-at.result * 64) (search rules) (omega arith) (omega arith) k)

pub returns-in-Write : goal.returns-in-Write
returns-in-Write c held e k = c.load-in-Write.ensures k ∙ rw (c.in-Write.is, e) (row_loaded held c.args.entry 1 (c.from-at.result * 64 + 32) (search rules) (omega arith) (omega arith) k)
