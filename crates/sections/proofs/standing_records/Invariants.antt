-- `sections::standing_records` meets its contract: the places passed fit. Assumes nothing.
use mathlib.Core.Path.{◌≡◌}
use mathlib.Core.Bool.{true}
use Rattle.rules.specs.Base.{all_below}
use Rattle.sections.specs.Fits.{record_fits}
use Rattle.sections.proofs.standing_records.Given as goal

abbrev pub invariant-loop-i : goal.invariant-loop-i
invariant-loop-i l = all_below l.i (record_fits l.log l.locks) ≡ true
