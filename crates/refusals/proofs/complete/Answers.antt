-- `refusals::complete` meets its contract: its checks are those of `in_status`. Assumes nothing.
use Rattle.rules.specs.Window.{running}
use Rattle.rules.specs.Refusals.{checks}
use Rattle.refusals.proofs.complete.Goals as goal

pub returns : goal.returns
unfolding checks running
returns c = c.in_status.ensures
