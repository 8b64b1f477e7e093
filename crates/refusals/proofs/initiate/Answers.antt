-- `refusals::initiate` meets its contract: each return has the checks before it passed, and its own failed. Assumes nothing.
use mathlib.Core.Path.{refl, ap}
use mathlib.Core.Bool.{not}
use native.Mathlib.Omega.{arith}
use Rattle.rules.specs.Window.{limits}
use Rattle.rules.specs.Refusals.{◌if◌, checks}
use Rattle.refusals.proofs.RefusalLaws.{all-passed, fails, passes, first, reads_below, reads_not_below, full, room, unless_none}
use Rattle.refusals.proofs.initiate.Goals as goal

pub returns-then-n-parent : goal.returns-then-n-parent
unfolding checks ◌if◌
returns-then-n-parent c = first (fails refl (reads_below c.given-n.ensures.value _ c.if-n-parent.true))

pub returns-then-not-parent-is_running : goal.returns-then-not-parent-is_running
unfolding checks ◌if◌
returns-then-not-parent-is_running c = first
    (passes refl (reads_not_below c.given-n.ensures.value _ c.if-n-parent.false)
    (fails (unless_none c.args.parent c.is_running.ensures) (ap not c.if-not-parent-is_running.true)))

pub returns-then-full : goal.returns-then-full
unfolding checks ◌if◌ limits
returns-then-full c = first
    (passes refl (reads_not_below c.given-n.ensures.value _ c.if-n-parent.false)
    (passes (unless_none c.args.parent c.is_running.ensures) (ap not c.if-not-parent-is_running.false)
    (fails refl (full c.given-n.ensures.value 255 (omega (arith, c.if-full.true))))))

pub returns : goal.returns
unfolding checks ◌if◌ limits
returns c = first
    (passes refl (reads_not_below c.given-n.ensures.value _ c.if-n-parent.false)
    (passes (unless_none c.args.parent c.is_running.ensures) (ap not c.if-not-parent-is_running.false)
    (passes refl (room c.given-n.ensures.value _ c.if-full.false) all-passed)))
