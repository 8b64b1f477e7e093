-- `pair_refusals::permit_numbers` meets its contract: each return has the checks before it passed, and its own failed. Assumes nothing.
use mathlib.Core.Path.{refl}
use Rattle.rules.specs.Refusals.{◌if◌, checks}
use borrow.Author.Tests.{eq-eqb, ne_eqb}
use Rattle.refusals.proofs.RefusalLaws.{all-passed, fails, passes, first, reads_below, reads_not_below}
use Rattle.pair_refusals.proofs.permit_numbers.Goals as goal

pub returns-then-no_change : goal.returns-then-no_change
unfolding checks ◌if◌
returns-then-no_change c = first (fails c.no_change.ensures c.if-no_change.true)

pub returns-then-given-taker : goal.returns-then-given-taker
unfolding checks ◌if◌
returns-then-given-taker c = first
    (passes c.no_change.ensures c.if-no_change.false
    (fails refl (reads_below c.given.ensures.value _ c.if-given-taker.true)))

pub returns-then-no_entry : goal.returns-then-no_entry
unfolding checks ◌if◌
returns-then-no_entry c = first
    (passes c.no_change.ensures c.if-no_change.false
    (passes refl (reads_not_below c.given.ensures.value _ c.if-given-taker.false)
    (fails c.no_entry.ensures c.if-no_entry.true)))

pub returns-then-outside : goal.returns-then-outside
unfolding checks ◌if◌
returns-then-outside c = first
    (passes c.no_change.ensures c.if-no_change.false
    (passes refl (reads_not_below c.given.ensures.value _ c.if-given-taker.false)
    (passes c.no_entry.ensures c.if-no_entry.false
    (fails c.outside.ensures c.if-outside.true))))

pub returns-then-giver-taker : goal.returns-then-giver-taker
unfolding checks ◌if◌
returns-then-giver-taker c = first
    (passes c.no_change.ensures c.if-no_change.false
    (passes refl (reads_not_below c.given.ensures.value _ c.if-given-taker.false)
    (passes c.no_entry.ensures c.if-no_entry.false
    (passes c.outside.ensures c.if-outside.false
    (fails refl (eq-eqb _ _ c.if-giver-taker.true))))))

pub returns : goal.returns
unfolding checks ◌if◌
returns c = first
    (passes c.no_change.ensures c.if-no_change.false
    (passes refl (reads_not_below c.given.ensures.value _ c.if-given-taker.false)
    (passes c.no_entry.ensures c.if-no_entry.false
    (passes c.outside.ensures c.if-outside.false
    (passes refl (ne_eqb _ _ c.if-giver-taker.false) all-passed)))))
