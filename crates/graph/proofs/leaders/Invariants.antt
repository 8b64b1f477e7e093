-- `graph::leaders` meets its contract: after some ties, the leaders of those. Assumes nothing.
use mathlib.Core.Path.{◌≡◌}
use Prim.Native.Nat.{ℕ}
use Rattle.rules.specs.Base.{any_below}
use Rattle.rules.specs.Effects.{leads_to}
use Rattle.layout.specs.Records.{tie_at}
use Rattle.sets.specs.Members.{members}
use Rattle.graph.proofs.leaders.Given as goal

abbrev pub invariant-loop-kind : goal.invariant-loop-kind
invariant-loop-kind l = (k : ℕ) → members l.found k ≡ any_below l.kind-index (λ i. leads_to (members l.followers) k (tie_at l.ties i))
