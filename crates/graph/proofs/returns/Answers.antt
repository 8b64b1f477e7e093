-- `graph::returns` meets its contract: an arrow returns where its follower leads to its leader, a group tie where its ends lead to each other one way only. Assumes nothing.
use mathlib.Core.Path.{sym, ◌∙◌, ap₂}
use mathlib.Core.Bool.{Bool, beq, not}
use Rattle.graph.proofs.ReturnLaws.{arrow-made, group_made}
use Rattle.graph.proofs.returns.Goals as goal

pub returns-then-arrow : goal.returns-then-arrow
returns-then-arrow c = let a = c.args in
    λ ts len e n ends hl hf r h.
    c.leads-back.ensures ts len e n ends ∙ arrow-made n ts ends a.kind a.leader a.follower hl hf h (sym c.is_arrow-arrow.ensures ∙ c.if-arrow.true)

pub returns : goal.returns
returns c = let a = c.args in
    λ ts len e n ends hl hf r h.
    ap₂ (λ (x y : Bool). not (beq x y)) (c.leads-back.ensures ts len e n ends) (c.leads.ensures ts len e n ends)
    ∙ group_made n ts ends a.kind a.leader a.follower hl hf h r (sym c.is_arrow-arrow.ensures ∙ c.if-arrow.false)
