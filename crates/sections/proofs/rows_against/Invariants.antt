-- `sections::rows_against` meets its contract: the entries passed fit. Assumes nothing.
use mathlib.Core.Path.{◌≡◌}
use mathlib.Core.Bool.{true}
use Rattle.rules.specs.Base.{all_below}
use Rattle.cells.specs.Bits.{bytes_have}
use Rattle.sections.specs.Fits.{row_fits}
use Rattle.sections.proofs.rows_against.Given as goal

abbrev pub invariant-loop-e : goal.invariant-loop-e
invariant-loop-e l = all_below l.e (row_fits l.locks (bytes_have l.live 0)) ≡ true
