-- `pair_refusals::permit` meets its contract: the first checks decide, or one of the others. Assumes nothing.
use mathlib.Core.Path.{refl, ap}
use mathlib.Core.Bool.{not}
use Rattle.std.proofs.lemmas.Result.{err_from_is_err_and}
use Rattle.rules.specs.Window.{limits}
use Rattle.rules.specs.Calls.{Permit}
use Rattle.rules.specs.Refusals.{◌if◌, checks}
use Rattle.layout.specs.Codec.{decode}
use Rattle.refusals.proofs.RefusalLaws.{stopped, all-passed, fails, passes, unless_none}
use Rattle.pair_refusals.proofs.PairLaws.{permit_numbers, permit_rest, no_room, has_room}
use Rattle.pair_refusals.proofs.permit.Goals as goal

pub permit_fits-requires : goal.permit_fits-requires
permit_fits-requires c = let a = c.args in record { giver_bound = permit_numbers (decode a.view.bytes.now) a.giver a.taker a.entry a.operations c.in_ok-permit_numbers.ensures }

pub returns-in_err-permit_numbers : goal.returns-in_err-permit_numbers
returns-in_err-permit_numbers c = let a = c.args in
    let p = err_from_is_err_and c.from_residual.result c.from_residual.ensures.1 in
    rw (p.1, p.2) (stopped 5 (checks limits (decode a.view.bytes.now) (Permit a.giver a.taker a.entry a.operations)) _ c.in_err-permit_numbers.ensures)

pub returns-then-not-is_live : goal.returns-then-not-is_live
unfolding checks ◌if◌
returns-then-not-is_live c = let a = c.args in
    permit_rest (decode a.view.bytes.now) a.giver a.taker a.entry a.operations c.in_ok-permit_numbers.ensures
    (fails (ap not c.is_live.ensures) (ap not c.if-not-is_live.true))

pub returns-then-not-taker-is_live : goal.returns-then-not-taker-is_live
unfolding checks ◌if◌
returns-then-not-taker-is_live c = let a = c.args in
    permit_rest (decode a.view.bytes.now) a.giver a.taker a.entry a.operations c.in_ok-permit_numbers.ensures
    (passes (ap not c.is_live.ensures) (ap not c.if-not-is_live.false)
    (fails (unless_none a.taker c.is_live-2.ensures) (ap not c.if-not-taker-is_live.true)))

pub returns-then-not-permit_fits : goal.returns-then-not-permit_fits
unfolding checks ◌if◌
returns-then-not-permit_fits c = let a = c.args in
    permit_rest (decode a.view.bytes.now) a.giver a.taker a.entry a.operations c.in_ok-permit_numbers.ensures
    (passes (ap not c.is_live.ensures) (ap not c.if-not-is_live.false)
    (passes (unless_none a.taker c.is_live-2.ensures) (ap not c.if-not-taker-is_live.false)
    (fails refl (no_room (c.permit_fits.ensures a.operations) (ap not c.if-not-permit_fits.true)))))

pub returns : goal.returns
unfolding checks ◌if◌
returns c = let a = c.args in
    permit_rest (decode a.view.bytes.now) a.giver a.taker a.entry a.operations c.in_ok-permit_numbers.ensures
    (passes (ap not c.is_live.ensures) (ap not c.if-not-is_live.false)
    (passes (unless_none a.taker c.is_live-2.ensures) (ap not c.if-not-taker-is_live.false)
    (passes refl (has_room (c.permit_fits.ensures a.operations) (ap not c.if-not-permit_fits.false)) all-passed)))
