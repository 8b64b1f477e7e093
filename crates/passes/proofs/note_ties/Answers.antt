-- `passes::note_ties` meets its contract: after some ties those are noted in the rows. Assumes nothing.
use mathlib.Core.Path.{ap, ◌∙◌}
use mathlib.Core.Bool.{◌||◌}
use borrow.Author.Rules.{rules}
use Rattle.rules.specs.Window.{TieRecord}
use Rattle.passes.specs.TieRows.{gone_along, row_has}
use Rattle.passes.proofs.NoteLaws.{ties_none, ties-more}
use Rattle.passes.proofs.note_ties.Goals as goal

pub loop-next-init : goal.loop-next-init
loop-next-init c = let a = c.args in (c.told-rows, λ x y. ties_none a.low a.ties.now x y (row_has a.rows.now x y))

pub loop-next-preserved : goal.loop-next-preserved
loop-next-preserved c = let a = c.args in
    let l = c.loop-next in (
      search rules,
      λ x y. ties-more a.low a.ties.now l.next x y (row_has l.rows x y) (row_has a.rows.now x y) (row_has c.note_tie.new.rows x y)
          (c.note_tie.ensures x y ∙ ap (λ (t : TieRecord). row_has l.rows x y || gone_along a.low t x y) c.at-tie.ensures) (l.invariant.1 x y),
    )
