-- `Draft::hand_locks` meets its contract: on every entry, or on one. Assumes nothing.
use Rattle.scope.specs.Entries.{entries_of}
use Rattle.handed.proofs.Draft.hand_locks.Goals as goal

pub returns-in-Every-clause-locks : goal.returns-in-Every-clause-locks
unfolding entries_of
returns-in-Every-clause-locks c = λ held modes none is. rw c.in-Every.is (c.hand_over_all.ensures held modes none is)

pub returns-in-Only-clause-locks : goal.returns-in-Only-clause-locks
unfolding entries_of
returns-in-Only-clause-locks c = λ held modes none is. rw c.in-Only.is (c.hand_over.ensures held modes is)
