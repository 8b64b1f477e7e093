-- `refusals::read` meets its contract: the first checks decide, or the last. Assumes nothing.
use mathlib.Core.Path.{refl}
use Rattle.std.proofs.lemmas.Result.{err_from_is_err_and}
use Rattle.rules.specs.Base.{all}
use Rattle.rules.specs.Window.{limits}
use Rattle.rules.specs.Calls.{Read}
use Rattle.rules.specs.Refusals.{◌if◌, checks}
use Rattle.layout.specs.Codec.{decode}
use Rattle.reads.proofs.ReadLaws.{reads_same, reads_other}
use Rattle.refusals.proofs.RefusalLaws.{stopped, went_on, all-passed, fails, passes}
use Rattle.refusals.proofs.read.Goals as goal

pub returns-in_err-on_entry : goal.returns-in_err-on_entry
unfolding checks
returns-in_err-on_entry c = let a = c.args in
    let p = err_from_is_err_and c.from_residual.result c.from_residual.ensures.1 in
    rw (p.1, p.2) (stopped 3 (checks limits (decode a.view.bytes.now) (Read a.change a.entry)) _ c.in_err-on_entry.ensures)

pub returns-then-held-none : goal.returns-then-held-none
unfolding checks all ◌if◌
returns-then-held-none c = let c1 = c in
    let a = c1.args in
    went_on 3 (checks limits (decode a.view.bytes.now) (Read a.change a.entry)) refl c.in_ok-on_entry.ensures (fails refl (reads_same c.held.ensures 0 c.if-held-none.true))

pub returns : goal.returns
unfolding checks all ◌if◌
returns c = let c1 = c in
    let a = c1.args in
    went_on 3 (checks limits (decode a.view.bytes.now) (Read a.change a.entry)) refl c.in_ok-on_entry.ensures (passes refl (reads_other c.held.ensures 0 c.if-held-none.false) all-passed)
