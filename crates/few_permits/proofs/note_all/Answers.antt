-- `few_permits::note_all` meets its contract: after some of the permits, those whom one of them lets stand beside the writer are noted. Assumes nothing.
use mathlib.Core.Path.{◌∙◌}
use mathlib.Core.Bool.{false}
use Rattle.sets.specs.Members.{members}
use Rattle.beside.specs.Beside.{beside}
use Rattle.few_permits.specs.Rows.{permit_row}
use Rattle.few_permits.proofs.NoteLaws.{noted_none, noted_next}
use Rattle.few_permits.proofs.note_all.Goals as goal

pub loop-permit-init : goal.loop-permit-init
loop-permit-init c = let a = c.args in
    let h = a.holders.now in
    λ k n. c.empty-noted.ensures k ∙ noted_none (permit_row a.permits.now) (beside (members h.readers) (members h.writers) a.writer k) false

pub loop-permit-preserved : goal.loop-permit-preserved
unfolding permit_row
loop-permit-preserved c = let a = c.args in
    let h = a.holders.now in
    let l = c.loop-permit in
    λ k n. noted_next (permit_row a.permits.now) (beside (members h.readers) (members h.writers) a.writer k) l.permit-index false (members l.noted k) (members c.note.new.noted k) (l.invariant k n) (c.note.ensures k n)
