-- `refusals::begin` meets its contract: its checks are those of `in_status`. Assumes nothing.
use Rattle.rules.specs.Refusals.{checks}
use Rattle.refusals.proofs.begin.Goals as goal

pub returns : goal.returns
unfolding checks
returns c = c.in_status.ensures
