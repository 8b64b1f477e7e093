-- `refusals::change` meets its contract: each return has the checks before it passed, and its own failed. Assumes nothing.
use Rattle.rules.specs.Refusals.{◌if◌}
use Rattle.refusals.proofs.RefusalLaws.{all-passed, fails, passes, change_refusal}
use Rattle.refusals.proofs.change.Goals as goal

pub returns-then-no_change : goal.returns-then-no_change
unfolding ◌if◌
returns-then-no_change c = change_refusal (fails c.no_change.ensures c.if-no_change.true)

pub returns : goal.returns
unfolding ◌if◌
returns c = change_refusal (passes c.no_change.ensures c.if-no_change.false all-passed)
