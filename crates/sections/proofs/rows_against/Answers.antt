-- `sections::rows_against` meets its contract: the entries passed fit. Assumes nothing.
use native.Mathlib.Omega.{arith}
use Rattle.rules.proofs.TurnLaws.{none_yet, turn_failed, turn_passed, turns_done}
use Rattle.sections.proofs.rows_against.Goals as goal

pub loop-e-init : goal.loop-e-init
loop-e-init c = none_yet _

pub returns-then-not-row : goal.returns-then-not-row
returns-then-not-row c = turn_failed _ _ c.loop-e.e _ (omega arith) c.row.ensures c.if-not-row.true-raw

pub loop-e-preserved : goal.loop-e-preserved
loop-e-preserved c = turn_passed _ _ _ c.loop-e.invariant c.row.ensures c.if-not-row.false-raw

pub returns : goal.returns
returns c = turns_done _ _ _ c.loop-e.invariant (omega arith)
