-- `orders::count_orders` meets its contract: the orders of ranks are as many as those of labels. Assumes nothing.
use Rattle.std.proofs.Common.{◌≡◌, ap, subst, ◌∙◌, ℕ, List, length, arith}
use Rattle.rules.specs.Sets.{everything}
use Rattle.rules.specs.Orders.{ways}
use Rattle.layout.specs.Records.{tie_at}
use Rattle.sets.specs.Members.{members}
use Rattle.cycles.specs.Graph.{tie_in_rows}
use Rattle.places.proofs.RowLaws.{rows-count}
use Rattle.cycles.proofs.RowLaws.{tie_is}
use Rattle.orders.specs.Ways.{leads}
use Rattle.orders.specs.Ranks.{ranks_of, Led}
use Rattle.orders.proofs.RankLaws.{leaderless, led_ext, orders_are}
use Rattle.orders.proofs.count_orders.Goals as goal

pub note_arrows-requires : goal.note_arrows-requires
note_arrows-requires c = leaderless

pub count_masks-requires : goal.count_masks-requires
count_masks-requires c = omega (arith, c.rank-n.ensures.count, c.requires.firsts_bound)

pub returns : goal.returns
returns c = let a = c.args in
    let m = c.note_arrows.new.masks in
    let s = members a.firsts in
    let rows = c.as_chunks.result.0.now in
    let room = c.requires.count_in_bounds in
    let cut = c.as_chunks.ensures.front in
    let all : length rows ≡ a.count = rows-count a.count a.ties.now rows room cut in
    let by_rows : Led (tie_in_rows rows) a.labels.now (ranks_of s) (length rows) m = subst (λ (x : List ℕ). Led (tie_in_rows rows) a.labels.now x (length rows) m) c.rank-n.ensures.ranks c.note_arrows.ensures in
    let led : Led (tie_at a.ties.now) a.labels.now (ranks_of s) a.count m = led_ext (tie_in_rows rows) (tie_at a.ties.now) a.labels.now (ranks_of s) m (length rows) a.count all (λ j h. tie_is a.ties.now a.count rows room cut j (omega (arith, all))) by_rows in
    c.count_masks.ensures ∙ ap (λ (k : ℕ). ways k (leads m) k everything) c.rank-n.ensures.count
    ∙ orders_are a.ties.now a.labels.now a.count s c.fits-labels c.requires.between m led c.requires.firsts_bound
