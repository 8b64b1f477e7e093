-- `rows::stands_at` meets its contract: there is a row, and it has the key. Assumes nothing.
use mathlib.Core.Path.{ap₂}
use lib.Dec.{eqb}
use borrow.Author.Tests.{lt-ltb, le-ltb}
use Rattle.rows.specs.Rows.{stands_at}
use Rattle.rows.proofs.stands_at.Goals as goal

pub returns-then-at-n : goal.returns-then-at-n
unfolding stands_at
returns-then-at-n c = rw (lt-ltb _ _ c.if-at-n.true) (ap₂ eqb c.key_at.ensures c.rank.ensures)

pub returns-else-at-n : goal.returns-else-at-n
unfolding stands_at
returns-else-at-n c = rw (le-ltb _ _ c.if-at-n.false)
