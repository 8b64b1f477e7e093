-- `locks::touched` meets its contract: the bytes passed are gathered in the or. Assumes nothing.
use Rattle.sets.proofs.GatherLaws.{Gathered}
use Rattle.locks.specs.Held.{holders_among}
use Rattle.locks.proofs.touched.Given as goal

abbrev pub invariant-loop-byte : goal.invariant-loop-byte
invariant-loop-byte l = Gathered (holders_among l.locks l.at l.ended) l.byte l.acc
