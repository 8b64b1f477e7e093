-- `refusals::on_entry` meets its contract: each return has the checks before it passed, and its own failed. Assumes nothing.
use mathlib.Core.Path.{ap}
use mathlib.Core.Bool.{not}
use Rattle.rules.specs.Refusals.{◌if◌, checks}
use Rattle.refusals.proofs.RefusalLaws.{all-passed, fails, passes, first}
use Rattle.refusals.proofs.on_entry.Goals as goal

pub returns-then-no_change : goal.returns-then-no_change
unfolding checks ◌if◌
returns-then-no_change c = first (fails c.no_change.ensures c.if-no_change.true)

pub returns-then-no_entry : goal.returns-then-no_entry
unfolding checks ◌if◌
returns-then-no_entry c = first
    (passes c.no_change.ensures c.if-no_change.false
    (fails c.no_entry.ensures c.if-no_entry.true))

pub returns-then-not-is_running : goal.returns-then-not-is_running
unfolding checks ◌if◌
returns-then-not-is_running c = first
    (passes c.no_change.ensures c.if-no_change.false
    (passes c.no_entry.ensures c.if-no_entry.false
    (fails (ap not c.is_running.ensures) (ap not c.if-not-is_running.true))))

pub returns : goal.returns
unfolding checks ◌if◌
returns c = first
    (passes c.no_change.ensures c.if-no_change.false
    (passes c.no_entry.ensures c.if-no_entry.false
    (passes (ap not c.is_running.ensures) (ap not c.if-not-is_running.false) all-passed)))
