-- `sections::given_changes` meets its contract: the places passed fit. Assumes nothing.
use Rattle.rules.proofs.TurnLaws.{none_yet, turn_failed, turn_passed, turns_done}
use Rattle.sections.specs.Fits.{next_fits}
use native.Mathlib.Omega.{arith}
use Rattle.sections.proofs.given_changes.Goals as goal

pub loop-c-init : goal.loop-c-init
loop-c-init c = none_yet _

pub returns-then-not-change : goal.returns-then-not-change
unfolding next_fits
returns-then-not-change c = turn_failed _ _ c.loop-c.c _ (omega arith) c.change.ensures c.if-not-change.true-raw

pub loop-c-preserved : goal.loop-c-preserved
unfolding next_fits
loop-c-preserved c = turn_passed _ _ _ c.loop-c.invariant c.change.ensures c.if-not-change.false-raw

pub returns : goal.returns
returns c = turns_done _ _ _ c.loop-c.invariant (omega arith)
