-- `sections::standing_records` meets its contract: the places passed fit. Assumes nothing.
use native.Mathlib.Omega.{arith}
use Rattle.rules.proofs.TurnLaws.{none_yet, turn_failed, turn_passed, turns_done}
use Rattle.sections.proofs.standing_records.Goals as goal

pub loop-i-init : goal.loop-i-init
loop-i-init c = none_yet _

pub returns-then-not-record_at : goal.returns-then-not-record_at
returns-then-not-record_at c = turn_failed _ _ c.loop-i.i _ (omega arith) c.record_at.ensures c.if-not-record_at.true-raw

pub loop-i-preserved : goal.loop-i-preserved
loop-i-preserved c = turn_passed _ _ _ c.loop-i.invariant c.record_at.ensures c.if-not-record_at.false-raw

pub returns : goal.returns
returns c = turns_done _ _ _ c.loop-i.invariant (omega arith)
