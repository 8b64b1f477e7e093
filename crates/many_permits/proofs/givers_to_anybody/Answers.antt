-- `many_permits::givers_to_anybody` meets its contract: after some of the permits, the givers among them. Assumes nothing.
use mathlib.Core.Path.{◌∙◌}
use Rattle.rules.proofs.TurnLaws.{found-next}
use Rattle.sets.specs.Members.{members}
use Rattle.beside.specs.Permits.{any_of}
use Rattle.few_permits.specs.Rows.{permit_row}
use Rattle.many_permits.specs.Named.{permits_anybody}
use Rattle.many_permits.proofs.BlockLaws.{any_none}
use Rattle.many_permits.proofs.givers_to_anybody.Goals as goal

pub loop-permit-init : goal.loop-permit-init
loop-permit-init c = λ k. c.empty-s.ensures k ∙ any_none (permit_row c.args.permits.now) (permits_anybody c.args.mode k)

pub loop-permit-preserved : goal.loop-permit-preserved
unfolding any_of permit_row
loop-permit-preserved c = let a = c.args in
    let l = c.loop-permit in
    λ k. found-next (λ i. permits_anybody a.mode k (permit_row a.permits.now i)) l.permit-index (members l.s k) (members c.add_giver-s.result k) (l.invariant k) (c.add_giver-s.ensures k)
