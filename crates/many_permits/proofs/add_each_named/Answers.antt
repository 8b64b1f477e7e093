-- `many_permits::add_each_named` meets its contract: after some of the permits, those whom they name beside the writer. Assumes nothing.
use Rattle.sets.specs.Members.{members}
use Rattle.few_permits.specs.Rows.{permit_row}
use Rattle.few_permits.proofs.NoteLaws.{noted_none, noted_next}
use Rattle.many_permits.specs.Named.{names}
use Rattle.many_permits.proofs.add_each_named.Goals as goal

pub loop-permit-init : goal.loop-permit-init
loop-permit-init c = let a = c.args in
    let h = a.holders.now in
    λ k. noted_none (permit_row a.permits.now) (names (members h.readers) (members h.writers) a.writer k) (members a.s k)

pub loop-permit-preserved : goal.loop-permit-preserved
unfolding permit_row
loop-permit-preserved c = let a = c.args in
    let h = a.holders.now in
    let l = c.loop-permit in
    λ k. noted_next (permit_row a.permits.now) (names (members h.readers) (members h.writers) a.writer k) l.permit-index (members a.s k) (members l.s k) (members c.add_named-s.result k) (l.invariant k) (c.add_named-s.ensures k)
