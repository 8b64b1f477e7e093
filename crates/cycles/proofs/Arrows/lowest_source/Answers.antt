-- `cycles::Arrows::lowest_source` meets its contract. Assumes nothing.
use Rattle.std.proofs.Common.{◌∙◌}
use Rattle.sets.specs.Members.{members}
use Rattle.rules.proofs.BoundLaws.{lowest_ext}
use Rattle.cycles.specs.Graph.{sources}
use Rattle.cycles.proofs.Arrows.lowest_source.Goals as goal

pub returns : goal.returns
unfolding sources
returns c = c.first.ensures ∙ lowest_ext (members c.minus.result) _ 256 (λ k h. c.minus.ensures k)
