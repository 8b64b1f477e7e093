-- `ended::set_ended` meets its contract. Assumes nothing.
use Rattle.sets.specs.Members.{members}
use Rattle.ended.proofs.EndLaws.{statuses_and_locks}
use Rattle.ended.proofs.set_ended.Goals as goal

pub returns : goal.returns
returns c = let a = c.args in λ W n e. statuses_and_locks W e (members a.ended) a.how a.entries n c.set_statuses.ensures c.release.ensures
