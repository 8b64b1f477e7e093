-- `cycles::Arrows::eliminate` meets its contract: what `Eliminating` says holds of what is left. The measure is how many labels are left. Assumes nothing.
use Rattle.std.proofs.Common.{◌≡◌, length}
use Rattle.rules.specs.Base.{count_below}
use Rattle.sets.specs.Members.{members}
use Rattle.cycles.specs.Graph.{tie_in_rows, graph_in}
use Rattle.cycles.proofs.EliminationLaws.{Eliminating}
use Rattle.cycles.proofs.Arrows.eliminate.Given as goal

abbrev pub invariant-loop-v : goal.invariant-loop-v
invariant-loop-v l = (l.self.heads ≡ l.initial.self.heads) × (l.self.next ≡ l.initial.self.next) × Eliminating (graph_in (tie_in_rows l.ties) l.labels) (length l.ties) l.self.incoming (members l.self.left) (members l.self.blocked)

abbrev pub decreases-loop-v : goal.decreases-loop-v
decreases-loop-v l = count_below 256 (members l.self.left)
