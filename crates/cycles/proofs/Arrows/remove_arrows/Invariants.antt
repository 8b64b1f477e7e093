-- `cycles::Arrows::remove_arrows` meets its contract: the arrows from place e on are gone. The measure is e, which falls from an arrow to the one before. Assumes nothing.
use Rattle.std.proofs.Common.{get_or}
use Rattle.sets.specs.Members.{members}
use Rattle.cycles.specs.Graph.{tie_in_rows, graph_in}
use Rattle.cycles.specs.Links.{Kept}
use Rattle.cycles.proofs.RemovalLaws.{Removing}
use Rattle.cycles.proofs.Arrows.remove_arrows.Given as goal

abbrev pub invariant-loop-e : goal.invariant-loop-e
invariant-loop-e l = Kept l.initial.self l.self × Removing (graph_in (tie_in_rows l.ties) l.labels) l.v (get_or l.initial.self.heads l.v 0) l.initial.self.incoming l.self.incoming (members l.self.blocked) l.e

abbrev pub decreases-loop-e : goal.decreases-loop-e
decreases-loop-e l = l.e
