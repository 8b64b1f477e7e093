-- `graph::reached` meets its contract: the closure of one change is what is reached from it, for any bound on the ends. Assumes nothing.
use native.Mathlib.Omega.{arith}
use borrow.Author.Rules.{rules}
use Rattle.sets.specs.Members.{members}
use Rattle.graph.proofs.ReachLaws.{one_added, reached_from}
use Rattle.graph.proofs.reached.Goals as goal

pub returns : goal.returns
returns c = let a = c.args in
    λ ts len e n ends.
    reached_from a.along a.ties.now ts a.count n a.c (members c.add.result) (members c.close.result)
    (one_added a.c (members c.empty.result) (members c.add.result) c.empty.ensures c.add.ensures)
    (λ i. omega (arith, c.type_inv.ties i)) (search rules) len e ends (c.close.ensures ts len e)
