-- `graph::with_leader` meets its contract: the leader is added where the tie is an arrow to a member. Assumes nothing.
use mathlib.Core.Path.{ap, ap₂, ◌∙◌}
use mathlib.Core.Bool.{Bool, ◌&&◌, ◌||◌}
use lib.Dec.{eqb}
use Rattle.layout.specs.Records.{tie_of}
use Rattle.sets.specs.Members.{members}
use Rattle.graph.proofs.ReachLaws.{leads_where}
use Rattle.graph.proofs.with_leader.Goals as goal

pub returns : goal.returns
returns c k = let a = c.args in
    c.add_if.ensures k ∙ ap (λ (b : Bool). members a.found k || b)
    (ap (λ (t : Bool). eqb a.leader k && t) (ap₂ ◌&&◌ c.is_arrow.ensures c.has.ensures) ∙ leads_where (tie_of a.kind a.leader a.follower) (members a.followers) k)
