-- `graph::leaders` meets its contract: after some ties, the leaders of those. Assumes nothing.
use mathlib.Core.Path.{◌≡◌, ap, ◌∙◌}
use mathlib.Core.Bool.{◌||◌}
use Prim.Native.Nat.{ℕ}
use native.Mathlib.Omega.{arith}
use borrow.Author.Rules.{rules}
use Rattle.rules.specs.Base.{any_below}
use Rattle.rules.specs.Effects.{leads_to}
use Rattle.rules.proofs.TurnLaws.{found-next}
use Rattle.layout.specs.Records.{tie_at}
use Rattle.sets.specs.Members.{members}
use Rattle.graph.proofs.ReachLaws.{row_tie, leaders_of_lem}
use Rattle.places.proofs.RowLaws.{rows-count}
use Rattle.graph.proofs.leaders.Goals as goal

pub loop-kind-init : goal.loop-kind-init
unfolding any_below
loop-kind-init c = c.empty-found.ensures

pub loop-kind-preserved : goal.loop-kind-preserved
unfolding tie_at
loop-kind-preserved c = let a = c.args in
    let l = c.loop-kind in
    λ k. found-next (λ i. leads_to (members a.followers) k (tie_at a.ties.now i)) l.kind-index (members l.found k) (members c.with_leader-found.result k) (l.invariant k)
    (c.with_leader-found.ensures k ∙ ap (λ t. members l.found k || leads_to (members a.followers) k t) (row_tie a.ties.now a.count c.as_chunks.result.0.now (search rules) c.as_chunks.ensures.front l.kind-index _ c.loop-kind-test.true))

pub returns : goal.returns
returns c = let a = c.args in
    let l = c.loop-kind in
    let q : l.kind-index ≡ a.count = omega (arith, rows-count a.count a.ties.now c.as_chunks.result.0.now (search rules) c.as_chunks.ensures.front) in
    λ ts len e k. l.invariant k ∙ ap (λ (j : ℕ). any_below j (λ i. leads_to (members a.followers) k (tie_at a.ties.now i))) q
    ∙ leaders_of_lem a.ties.now ts a.count (members a.followers) k (search rules) len e
