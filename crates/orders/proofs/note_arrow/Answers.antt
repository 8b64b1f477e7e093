-- `orders::note_arrow` meets its contract: a bit is set where the tie is an arrow, and no rank from 12 on is asked for. Assumes nothing.
use Rattle.std.proofs.Common.{sym, ap, ◌∙◌, Bool, ◌&&◌, ◌||◌, eqb, arith}
use mathlib.Core.Bool.{and-false}
use borrow.Author.Tests.{ne_eqb}
use Rattle.rules.specs.Ties.{is_arrow}
use Rattle.orders.specs.Ways.{leads}
use Rattle.orders.proofs.RankLaws.{lead_more, lead_same}
use Rattle.orders.proofs.note_arrow.Goals as goal

pub returns-then-to-lt-MOST : goal.returns-then-to-lt-MOST
returns-then-to-lt-MOST c = let a = c.args in
    let m = a.masks.now in
    λ x y p q. lead_more m a.from a.to x y (omega arith) (omega arith) ∙ ap (λ (t : Bool). leads m x y || t && eqb a.from x && eqb a.to y) (sym c.if-is_arrow.true ∙ c.is_arrow.ensures)

pub returns-else-to-lt-MOST : goal.returns-else-to-lt-MOST
returns-else-to-lt-MOST c = let a = c.args in
    λ x y p q. lead_same (leads a.masks.now x y) _ (ap (λ (t : Bool). is_arrow a.kind && eqb a.from x && t) (ne_eqb a.to y (λ e. omega arith)) ∙ and-false (is_arrow a.kind && eqb a.from x))

pub returns-else-i-lt-MOST : goal.returns-else-i-lt-MOST
returns-else-i-lt-MOST c = let a = c.args in
    λ x y p q. lead_same (leads a.masks.now x y) _ (ap (λ (t : Bool). is_arrow a.kind && t && eqb a.to y) (ne_eqb a.from x (λ e. omega arith)) ∙ ap (λ (t : Bool). t && eqb a.to y) (and-false (is_arrow a.kind)))

pub returns-else-is_arrow : goal.returns-else-is_arrow
returns-else-is_arrow c = let a = c.args in
    λ x y p q. lead_same (leads a.masks.now x y) _ (ap (λ (t : Bool). t && eqb a.from x && eqb a.to y) (sym c.is_arrow.ensures ∙ c.if-is_arrow.false))
