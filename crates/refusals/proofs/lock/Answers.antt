-- `refusals::lock` meets its contract: each return has the checks before it passed, and its own failed. Assumes nothing.
use mathlib.Core.Path.{sym, ◌∙◌, ap}
use mathlib.Core.Bool.{not}
use Rattle.rules.specs.Refusals.{◌if◌, checks}
use Rattle.refusals.proofs.RefusalLaws.{all-passed, fails, passes, first}
use Rattle.refusals.proofs.lock.Goals as goal

pub returns-then-no_change : goal.returns-then-no_change
unfolding checks ◌if◌
returns-then-no_change c = first (fails c.no_change.ensures c.if-no_change.true)

pub returns-then-no_entry : goal.returns-then-no_entry
unfolding checks ◌if◌
returns-then-no_entry c = first
    (passes c.no_change.ensures c.if-no_change.false
    (fails c.no_entry.ensures c.if-no_entry.true))

pub returns-then-outside : goal.returns-then-outside
unfolding checks ◌if◌
returns-then-outside c = first
    (passes c.no_change.ensures c.if-no_change.false
    (passes c.no_entry.ensures c.if-no_entry.false
    (fails c.outside.ensures c.if-outside.true)))

pub returns-then-not-is_running : goal.returns-then-not-is_running
unfolding checks ◌if◌
returns-then-not-is_running c = first
    (passes c.no_change.ensures c.if-no_change.false
    (passes c.no_entry.ensures c.if-no_entry.false
    (passes c.outside.ensures c.if-outside.false
    (fails (ap not c.is_running.ensures) (ap not c.if-not-is_running.true)))))

pub waits_elsewhere-elsewhere-requires : goal.waits_elsewhere-elsewhere-requires
waits_elsewhere-elsewhere-requires c = record { change_value = sym c.no_change.ensures ∙ c.if-no_change.false; entry_value = sym c.no_entry.ensures ∙ c.if-no_entry.false }

pub returns-then-elsewhere : goal.returns-then-elsewhere
unfolding checks ◌if◌
returns-then-elsewhere c = first
    (passes c.no_change.ensures c.if-no_change.false
    (passes c.no_entry.ensures c.if-no_entry.false
    (passes c.outside.ensures c.if-outside.false
    (passes (ap not c.is_running.ensures) (ap not c.if-not-is_running.false)
    (fails c.waits_elsewhere-elsewhere.ensures c.if-elsewhere.true)))))

pub returns : goal.returns
unfolding checks ◌if◌
returns c = first
    (passes c.no_change.ensures c.if-no_change.false
    (passes c.no_entry.ensures c.if-no_entry.false
    (passes c.outside.ensures c.if-outside.false
    (passes (ap not c.is_running.ensures) (ap not c.if-not-is_running.false)
    (passes c.waits_elsewhere-elsewhere.ensures c.if-elsewhere.false all-passed)))))
