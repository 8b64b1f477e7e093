-- `refusals::value` meets its contract: each return has the checks before it passed, and its own failed. Assumes nothing.
use Rattle.rules.specs.Refusals.{◌if◌, checks}
use Rattle.refusals.proofs.RefusalLaws.{all-passed, fails, passes, first}
use Rattle.refusals.proofs.value.Goals as goal

pub returns-then-no_entry : goal.returns-then-no_entry
unfolding checks ◌if◌
returns-then-no_entry c = first (fails c.no_entry.ensures c.if-no_entry.true)

pub returns : goal.returns
unfolding checks ◌if◌
returns c = first (passes c.no_entry.ensures c.if-no_entry.false all-passed)
