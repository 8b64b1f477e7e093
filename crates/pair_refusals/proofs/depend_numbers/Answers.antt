-- `pair_refusals::depend_numbers` meets its contract: each return has the checks before it passed, and its own failed. Assumes nothing.
use mathlib.Core.Path.{refl}
use Rattle.rules.specs.Refusals.{◌if◌, checks}
use borrow.Author.Tests.{eq-eqb, ne_eqb}
use Rattle.refusals.proofs.RefusalLaws.{all-passed, fails, passes, first}
use Rattle.pair_refusals.proofs.depend_numbers.Goals as goal

pub returns-then-no_change : goal.returns-then-no_change
unfolding checks ◌if◌
returns-then-no_change c = first (fails c.no_change.ensures c.if-no_change.true)

pub returns-then-no_change-2 : goal.returns-then-no_change-2
unfolding checks ◌if◌
returns-then-no_change-2 c = first
    (passes c.no_change.ensures c.if-no_change.false
    (fails c.no_change-2.ensures c.if-no_change-2.true))

pub returns-then-outside : goal.returns-then-outside
unfolding checks ◌if◌
returns-then-outside c = first
    (passes c.no_change.ensures c.if-no_change.false
    (passes c.no_change-2.ensures c.if-no_change-2.false
    (fails c.outside.ensures c.if-outside.true)))

pub returns-then-leader-follower : goal.returns-then-leader-follower
unfolding checks ◌if◌
returns-then-leader-follower c = first
    (passes c.no_change.ensures c.if-no_change.false
    (passes c.no_change-2.ensures c.if-no_change-2.false
    (passes c.outside.ensures c.if-outside.false
    (fails refl (eq-eqb _ _ c.if-leader-follower.true)))))

pub returns : goal.returns
unfolding checks ◌if◌
returns c = first
    (passes c.no_change.ensures c.if-no_change.false
    (passes c.no_change-2.ensures c.if-no_change-2.false
    (passes c.outside.ensures c.if-outside.false
    (passes refl (ne_eqb _ _ c.if-leader-follower.false) all-passed))))
