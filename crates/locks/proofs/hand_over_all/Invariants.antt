-- `locks::hand_over_all` meets its contract: on the entries passed the lock is moved. Assumes nothing.
use mathlib.Core.Path.{◌≡◌}
use lib.ListN.{length}
use Rattle.locks.specs.Held.{Modes}
use Rattle.locks.proofs.ChangeLaws.{moved}
use Rattle.locks.proofs.WalkLaws.{Walked}
use Rattle.locks.proofs.hand_over_all.Given as goal

abbrev pub invariant-loop-i : goal.invariant-loop-i
invariant-loop-i l = (length l.locks ≡ length l.initial.locks) × Walked Modes (moved l.from l.to) l.initial.locks l.locks l.i
