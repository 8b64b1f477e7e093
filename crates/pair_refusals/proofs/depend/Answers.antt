-- `pair_refusals::depend` meets its contract: the first checks decide, or one of the others. Assumes nothing.
use mathlib.Core.Path.{refl, ap}
use mathlib.Core.Bool.{not}
use Rattle.std.proofs.lemmas.Result.{err_from_is_err_and}
use Rattle.rules.specs.Window.{limits}
use Rattle.rules.specs.Calls.{Depend}
use Rattle.rules.specs.Refusals.{◌if◌, checks}
use Rattle.layout.specs.Codec.{decode}
use Rattle.refusals.proofs.RefusalLaws.{stopped, all-passed, fails, passes}
use Rattle.pair_refusals.proofs.PairLaws.{depend_numbers, depend_rest, not_both, no_room, has_room}
use Rattle.pair_refusals.proofs.depend.Goals as goal

pub tie_returns-requires : goal.tie_returns-requires
tie_returns-requires c = let a = c.args in record { kind_value = depend_numbers (decode a.view.bytes.now) a.kind a.leader a.follower c.in_ok-depend_numbers.ensures }

pub tie_fits-requires : goal.tie_fits-requires
tie_fits-requires c = let a = c.args in record { kind_value = depend_numbers (decode a.view.bytes.now) a.kind a.leader a.follower c.in_ok-depend_numbers.ensures }

pub returns-in_err-depend_numbers : goal.returns-in_err-depend_numbers
returns-in_err-depend_numbers c = let a = c.args in
    let p = err_from_is_err_and c.from_residual.result c.from_residual.ensures.1 in
    rw (p.1, p.2) (stopped 4 (checks limits (decode a.view.bytes.now) (Depend a.kind a.leader a.follower)) _ c.in_err-depend_numbers.ensures)

pub returns-then-not-is_live : goal.returns-then-not-is_live
unfolding checks ◌if◌
returns-then-not-is_live c = let a = c.args in
    depend_rest (decode a.view.bytes.now) a.kind a.leader a.follower c.in_ok-depend_numbers.ensures
    (fails (not_both c.is_live.ensures c.is_live-2.ensures) (ap not c.if-not-is_live.true))

pub returns-then-tie_returns : goal.returns-then-tie_returns
unfolding checks ◌if◌
returns-then-tie_returns c = let a = c.args in
    depend_rest (decode a.view.bytes.now) a.kind a.leader a.follower c.in_ok-depend_numbers.ensures
    (passes (not_both c.is_live.ensures c.is_live-2.ensures) (ap not c.if-not-is_live.false)
    (fails c.tie_returns.ensures c.if-tie_returns.true))

pub returns-then-not-tie_fits : goal.returns-then-not-tie_fits
unfolding checks ◌if◌
returns-then-not-tie_fits c = let a = c.args in
    depend_rest (decode a.view.bytes.now) a.kind a.leader a.follower c.in_ok-depend_numbers.ensures
    (passes (not_both c.is_live.ensures c.is_live-2.ensures) (ap not c.if-not-is_live.false)
    (passes c.tie_returns.ensures c.if-tie_returns.false
    (fails refl (no_room c.tie_fits.ensures (ap not c.if-not-tie_fits.true)))))

pub returns : goal.returns
unfolding checks ◌if◌
returns c = let a = c.args in
    depend_rest (decode a.view.bytes.now) a.kind a.leader a.follower c.in_ok-depend_numbers.ensures
    (passes (not_both c.is_live.ensures c.is_live-2.ensures) (ap not c.if-not-is_live.false)
    (passes c.tie_returns.ensures c.if-tie_returns.false
    (passes refl (has_room c.tie_fits.ensures (ap not c.if-not-tie_fits.false)) all-passed)))
