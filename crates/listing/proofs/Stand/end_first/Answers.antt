-- `listing::Stand::end_first` meets its contract. Assumes nothing.
use mathlib.Core.Path.{sym, ◌∙◌}
use lib.ListN.{take}
use Rattle.text.specs.Decimal.{ascii}
use Rattle.listing.specs.Listing.{first_line}
use Rattle.listing.proofs.StandLaws.{first_right, first_broken}
use Rattle.listing.proofs.Stand.end_first.Goals as goal

pub returns-then-right-clause-by_index : goal.returns-then-right-clause-by_index
unfolding first_line ascii
returns-then-right-clause-by_index c = λ m.
    let a = c.args in let s = a.self.now in
    first_right (take s.held a.line.now) m (take s.used a.out.now) s.stage c.requires.stage (sym c.same-right.ensures ∙ c.if-right.true)

pub returns-else-right-clause-by_index : goal.returns-else-right-clause-by_index
unfolding first_line ascii
returns-else-right-clause-by_index c = λ m.
    let a = c.args in let s = a.self.now in
    first_broken (take s.held a.line.now) m (take s.used a.out.now) s.stage c.requires.stage (sym c.same-right.ensures ∙ c.if-right.false) _ _ _ c.put_line-self.ensures.out_after c.unchanged.ensures
