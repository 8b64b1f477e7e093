-- `sets::ChangeSet::without` meets its contract: c alone is taken out of the set. Assumes nothing.
use mathlib.Core.Path.{ap, ◌∙◌}
use mathlib.Core.Bool.{Bool, not, ◌&&◌, and_comm}
use lib.Dec.{eqb}
use Rattle.sets.specs.Members.{members}
use Rattle.sets.proofs.ChangeSet.without.Goals as goal

pub returns : goal.returns
returns c = let s = c.args.self in
    λ k.
    c.minus.ensures k ∙ ap (λ (t : Bool). members s k && not t) (c.single.ensures k)
    ∙ and_comm (members s k) (not (eqb k c.args.c))
