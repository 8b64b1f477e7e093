-- `pair_refusals::delegate` meets its contract: each return has the checks before it passed, and its own failed. Assumes nothing.
use mathlib.Core.Path.{refl, ap}
use mathlib.Core.Bool.{not}
use Rattle.rules.specs.Refusals.{◌if◌, checks}
use borrow.Author.Tests.{eq-eqb, ne_eqb}
use Rattle.refusals.proofs.RefusalLaws.{all-passed, fails, passes, first}
use Rattle.pair_refusals.proofs.PairLaws.{unless_every, not_both}
use Rattle.pair_refusals.proofs.delegate.Goals as goal

pub returns-then-no_change : goal.returns-then-no_change
unfolding checks ◌if◌
returns-then-no_change c = first (fails c.no_change.ensures c.if-no_change.true)

pub returns-then-no_change-2 : goal.returns-then-no_change-2
unfolding checks ◌if◌
returns-then-no_change-2 c = first
    (passes c.no_change.ensures c.if-no_change.false
    (fails c.no_change-2.ensures c.if-no_change-2.true))

pub returns-then-entry-no_entry : goal.returns-then-entry-no_entry
unfolding checks ◌if◌
returns-then-entry-no_entry c = first
    (passes c.no_change.ensures c.if-no_change.false
    (passes c.no_change-2.ensures c.if-no_change-2.false
    (fails (unless_every c.args.entry c.no_entry.ensures) c.if-entry-no_entry.true)))

pub returns-then-from-to : goal.returns-then-from-to
unfolding checks ◌if◌
returns-then-from-to c = let a = c.args in
    first
    (passes c.no_change.ensures c.if-no_change.false
    (passes c.no_change-2.ensures c.if-no_change-2.false
    (passes (unless_every a.entry c.no_entry.ensures) c.if-entry-no_entry.false
    (fails refl (eq-eqb _ _ c.if-from-to.true)))))

pub returns-then-not-is_live : goal.returns-then-not-is_live
unfolding checks ◌if◌
returns-then-not-is_live c = let a = c.args in
    first
    (passes c.no_change.ensures c.if-no_change.false
    (passes c.no_change-2.ensures c.if-no_change-2.false
    (passes (unless_every a.entry c.no_entry.ensures) c.if-entry-no_entry.false
    (passes refl (ne_eqb _ _ c.if-from-to.false)
    (fails (not_both c.is_live.ensures c.is_live-2.ensures) (ap not c.if-not-is_live.true))))))

pub returns : goal.returns
unfolding checks ◌if◌
returns c = let a = c.args in
    first
    (passes c.no_change.ensures c.if-no_change.false
    (passes c.no_change-2.ensures c.if-no_change-2.false
    (passes (unless_every a.entry c.no_entry.ensures) c.if-entry-no_entry.false
    (passes refl (ne_eqb _ _ c.if-from-to.false)
    (passes (not_both c.is_live.ensures c.is_live-2.ensures) (ap not c.if-not-is_live.false) all-passed)))))
