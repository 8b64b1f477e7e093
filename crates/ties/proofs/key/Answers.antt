-- `ties::key` meets its contract: a group tie's ends are swapped where they are not in order. Assumes nothing.
use Rattle.ties.proofs.TieLaws.{ends_swapped, ends-kept}
use Rattle.ties.proofs.key.Goals as goal

pub returns-then-turned : goal.returns-then-turned
returns-then-turned c = let a = c.args in ends_swapped a.kind a.leader a.follower c.if-turned.true

pub returns : goal.returns
returns c = let a = c.args in ends-kept a.kind a.leader a.follower c.if-turned.false
