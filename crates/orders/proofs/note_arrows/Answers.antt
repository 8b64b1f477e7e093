-- `orders::note_arrows` meets its contract: the arrows of the ties before the place are noted. Assumes nothing.
use Rattle.std.proofs.Common.{◌∙◌, ℕ, ◌&&◌, ◌||◌, eqb}
use mathlib.Core.Path.{ap₂}
use Rattle.rules.specs.Ties.{is_arrow}
use Rattle.cycles.specs.Graph.{tie_in_rows}
use Rattle.orders.specs.Ways.{leads}
use Rattle.orders.specs.Ranks.{ranked}
use Rattle.orders.proofs.RankLaws.{led-none, led-next}
use Rattle.orders.proofs.note_arrows.Goals as goal

pub loop-kind-init : goal.loop-kind-init
loop-kind-init c = let a = c.args in led-none (tie_in_rows a.ties.now) a.labels.now a.ranks.now a.masks.now c.requires

pub loop-kind-preserved : goal.loop-kind-preserved
unfolding ranked tie_in_rows
loop-kind-preserved c = let a = c.args in
    let l = c.loop-kind in
    let n = c.note_arrow in
    led-next (tie_in_rows a.ties.now) a.labels.now a.ranks.now l.masks n.new.masks l.kind-index l.invariant
    (λ x y p q. n.ensures x y p q ∙ ap₂ (λ (from to : ℕ). leads l.masks x y || is_arrow (tie_in_rows a.ties.now l.kind-index).kind && eqb from x && eqb to y) c.rank_of-from.ensures c.rank_of-to.ensures)
