-- `listing::Stand::finish` meets its contract. Assumes nothing.
use mathlib.Core.Path.{◌≡◌, ◌∙◌}
use native.Mathlib.Omega.{arith}
use lib.ListN.{length, take}
use lib.Seq.{length-take-le}
use Rattle.listing.specs.Stands.{standing}
use Rattle.listing.proofs.StandLaws.{end_none, end_begun}
use Rattle.listing.proofs.Stand.finish.Goals as goal

pub returns-then-not-nothing-clause-out_after : goal.returns-then-not-nothing-clause-out_after
returns-then-not-nothing-clause-out_after c =
    let a = c.args in let s = a.self.now in
    let some : length (take s.held a.line.now) ≡ 0 → ⊥ = λ e. omega (arith, c.if-not-nothing.true, length-take-le s.held a.line.now (omega (arith, c.requires)), e) in
    end_begun _ (standing s a.line.now a.memory.now a.out.now) some c.end_line.ensures.out_after

pub returns-else-not-nothing-clause-out_after : goal.returns-else-not-nothing-clause-out_after
returns-else-not-nothing-clause-out_after c =
    let a = c.args in let s = a.self.now in
    end_none (standing s a.line.now a.memory.now a.out.now) (length-take-le s.held a.line.now (omega (arith, c.requires)) ∙ omega (arith, c.if-not-nothing.false))
