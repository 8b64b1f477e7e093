-- `cells::run_zero` meets its contract: the or of the bytes so far is 0 where they all are. Assumes nothing.
use mathlib.Core.Path.{◌≡◌}
use lib.Dec.{eqb}
use Rattle.rules.specs.Base.{all_below}
use Rattle.cells.specs.Part.{byte_is}
use Rattle.cells.proofs.run_zero.Given as goal

abbrev pub invariant-loop-byte : goal.invariant-loop-byte
invariant-loop-byte l = eqb l.acc 0 ≡ all_below l.byte-index (byte_is l.s l.at 0)
