-- `many_permits::add_giver` meets its contract: the giver is added where the permit is to anybody and contains the mode. Assumes nothing.
use mathlib.Core.Path.{◌∙◌, ap}
use mathlib.Core.Bool.{Bool, ◌&&◌, ◌||◌}
use lib.Dec.{eqb}
use lib.ListN.{get_or}
use Rattle.layout.specs.Records.{permit_at}
use Rattle.sets.specs.Members.{members}
use Rattle.many_permits.specs.Named.{permits_anybody}
use Rattle.many_permits.proofs.add_giver.Goals as goal

pub returns : goal.returns
unfolding permits_anybody permit_at
returns c k = let a = c.args in
    let row = a.permit.now in
    c.add_if.ensures k ∙ ap (λ (b : Bool). members a.s k || eqb (get_or row 1 0) k && (eqb (get_or row 2 0) 0 && b)) c.contains-contained.ensures
