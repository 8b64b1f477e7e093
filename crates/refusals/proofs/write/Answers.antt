-- `refusals::write` meets its contract: the first checks decide, or one of the others. Assumes nothing.
use mathlib.Core.Path.{refl, ap}
use mathlib.Core.Bool.{not}
use native.Mathlib.Omega.{arith}
use Rattle.std.proofs.lemmas.Result.{err_from_is_err_and}
use Rattle.rules.specs.Base.{all}
use Rattle.rules.specs.Window.{limits}
use Rattle.rules.specs.Calls.{Write}
use Rattle.rules.specs.Refusals.{◌if◌, checks}
use Rattle.layout.specs.Codec.{decode}
use Rattle.reads.proofs.ReadLaws.{reads_same, reads_other}
use Rattle.refusals.proofs.RefusalLaws.{stopped, went_on, all-passed, fails, passes, full, room}
use Rattle.refusals.proofs.write.Goals as goal

pub returns-in_err-on_entry : goal.returns-in_err-on_entry
unfolding checks
returns-in_err-on_entry c = let a = c.args in
    let p = err_from_is_err_and c.from_residual.result c.from_residual.ensures.1 in
    λ v. rw (p.1, p.2) (stopped 3 (checks limits (decode a.view.bytes.now) (Write a.change a.entry v)) _ c.in_err-on_entry.ensures)

pub returns-then-held-write : goal.returns-then-held-write
unfolding checks all ◌if◌
returns-then-held-write c = let a = c.args in
    λ v. went_on 3 (checks limits (decode a.view.bytes.now) (Write a.change a.entry v)) refl c.in_ok-on_entry.ensures (fails refl (ap not (reads_other c.held.ensures 2 c.if-held-write.true)))

pub returns-then-full : goal.returns-then-full
unfolding checks all ◌if◌ limits
returns-then-full c = let a = c.args in
    λ v. went_on 3 (checks limits (decode a.view.bytes.now) (Write a.change a.entry v)) refl c.in_ok-on_entry.ensures
    (passes refl (ap not (reads_same c.held.ensures 2 c.if-held-write.false))
    (fails refl (full c.records-full.ensures.value 2048 (omega (arith, c.if-full.true)))))

pub returns : goal.returns
unfolding checks all ◌if◌ limits
returns c = let a = c.args in
    λ v. went_on 3 (checks limits (decode a.view.bytes.now) (Write a.change a.entry v)) refl c.in_ok-on_entry.ensures
    (passes refl (ap not (reads_same c.held.ensures 2 c.if-held-write.false))
    (passes refl (room c.records-full.ensures.value _ c.if-full.false) all-passed))
