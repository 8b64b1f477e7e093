-- `sections::row` meets its contract: what does not fit in the bytes passed is gathered. Assumes nothing.
use Rattle.cells.specs.Bits.{bytes_have}
use Rattle.sets.proofs.GatherLaws.{Gathered}
use Rattle.sections.proofs.RowLaws.{misfits}
use Rattle.sections.proofs.row.Given as goal

abbrev pub invariant-loop-i : goal.invariant-loop-i
invariant-loop-i l = Gathered (misfits l.locks (bytes_have l.live 0) l.e) l.i l.acc
