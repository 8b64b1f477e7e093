-- `cycles::Arrows::link_ties` meets its contract: the lists hold the arrows before place j. Assumes nothing.
use Rattle.cycles.specs.Graph.{tie_in_rows, graph_in}
use Rattle.cycles.specs.Links.{lists_of, Linked}
use Rattle.cycles.proofs.LinkLaws.{Room}
use Rattle.cycles.proofs.Arrows.link_ties.Given as goal

abbrev pub invariant-loop-j : goal.invariant-loop-j
invariant-loop-j l = Room l.self × Linked (graph_in (tie_in_rows l.ties) l.labels) l.j (lists_of l.self)
