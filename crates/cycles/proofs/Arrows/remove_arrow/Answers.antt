-- `cycles::Arrows::remove_arrow` meets its contract. Assumes nothing.
use Rattle.std.proofs.Common.{rules, tests}
use Rattle.cycles.proofs.RemovalLaws.{last_gone, more_left}
use Rattle.cycles.proofs.Arrows.remove_arrow.Goals as goal

pub returns-then-last-clause-blocked : goal.returns-then-last-clause-blocked
returns-then-last-clause-blocked c = last_gone _ _ _ _ (search (rules, tests)) c.take_out.ensures

pub returns-else-last-clause-blocked : goal.returns-else-last-clause-blocked
returns-else-last-clause-blocked c = more_left _ _ _ (λ e. search (rules, tests))
