-- `sections::given_changes` meets its contract: the places passed fit. Assumes nothing.
use mathlib.Core.Path.{◌≡◌}
use mathlib.Core.Bool.{true}
use Rattle.rules.specs.Base.{all_below}
use Rattle.sections.specs.Fits.{next_fits}
use Rattle.sections.proofs.given_changes.Given as goal

abbrev pub invariant-loop-c : goal.invariant-loop-c
invariant-loop-c l = all_below l.c (next_fits l.changes) ≡ true
