-- `sets::ChangeSet::add` meets its contract: c alone is united with the set. Assumes nothing.
use mathlib.Core.Path.{ap, ◌∙◌}
use mathlib.Core.Bool.{Bool, ◌||◌}
use Rattle.sets.specs.Members.{members}
use Rattle.sets.proofs.ChangeSet.add.Goals as goal

pub returns : goal.returns
returns c = let s = c.args.self in
    λ k. c.unite.ensures k ∙ ap (λ (t : Bool). t || members s k) (c.single.ensures k)
