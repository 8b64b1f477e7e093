-- `cells::read_u16` meets its contract. Assumes nothing.
use mathlib.Core.Path.{◌∙◌}
use native.Mathlib.Omega.{arith}
use borrow.Author.Rules.{rules}
use Rattle.cells.specs.Num.{num}
use Rattle.cells.proofs.NumLaws.{part2}
use Rattle.cells.proofs.read_u16.Goals as goal

pub returns : goal.returns
unfolding num
returns c = let a = c.args in c.from_le_bytes.ensures ∙ rw (c.bytes_at-bytes.ensures, part2 a.s.now a.at (search rules)) (omega arith)
