-- `refusals::in_status` meets its contract: each return has the checks before it passed, and its own failed. Assumes nothing.
use mathlib.Core.Path.{refl, ap}
use mathlib.Core.Bool.{not}
use Rattle.rules.specs.Refusals.{◌if◌}
use Rattle.reads.proofs.ReadLaws.{reads_same, reads_other}
use Rattle.refusals.proofs.RefusalLaws.{all-passed, fails, passes, first}
use Rattle.refusals.proofs.in_status.Goals as goal

pub returns-then-no_change : goal.returns-then-no_change
unfolding ◌if◌
returns-then-no_change c = first (fails c.no_change.ensures c.if-no_change.true)

pub returns-then-status-s : goal.returns-then-status-s
unfolding ◌if◌
returns-then-status-s c = let c1 = c in
    first
    (passes c1.no_change.ensures c1.if-no_change.false
    (fails refl (ap not (reads_other c.status.ensures _ c.if-status-s.true))))

pub returns : goal.returns
unfolding ◌if◌
returns c = let c1 = c in
    first
    (passes c1.no_change.ensures c1.if-no_change.false
    (passes refl (ap not (reads_same c.status.ensures _ c.if-status-s.false)) all-passed))
