-- `orders::rank` meets its contract: the ranks below k are in place, and as many are counted. Assumes nothing.
use Rattle.std.proofs.Common.{◌≡◌, ◌+◌, ◌<◌, ℕ, refl, sym, ap, ◌∙◌, length, length-set, get_or-set_other, get_or-set_same, below_more, arith, rules}
use Rattle.rules.specs.Base.{count_below}
use Rattle.rules.proofs.BaseLaws.{count-le}
use Rattle.layout.proofs.SectionLaws.{table_list}
use Rattle.sets.specs.Members.{members}
use Rattle.orders.specs.Ranks.{ranks_of}
use Rattle.orders.proofs.RankLaws.{count_next}
use Rattle.orders.proofs.rank.Goals as goal

pub loop-k-init : goal.loop-k-init
unfolding count_below
loop-k-init c = record { counted = refl; long = search rules; placed = λ i h. absurd (omega arith) }

pub overflow_cast-ranks : goal.overflow_cast-ranks
overflow_cast-ranks c = record { fits = omega (arith, c.loop-k.invariant.counted, count-le c.loop-k.k (members c.args.firsts)) }

pub overflow_add-q : goal.overflow_add-q
overflow_add-q c = let l = c.loop-k in
    let s = members c.args.firsts in
    record { fits = omega (arith, count_next s l.k l.q c.from-q.result c.has.result l.invariant.counted c.has.ensures c.from-q.ensures, count-le (l.k + 1) s) }

pub loop-k-preserved : goal.loop-k-preserved
loop-k-preserved c = let l = c.loop-k in
    let m = l.invariant in
    let within : l.k < length l.ranks = omega (arith, m.long) in
    record { counted = count_next (members c.args.firsts) l.k l.q c.from-q.result c.has.result m.counted c.has.ensures c.from-q.ensures; long = length-set l.ranks l.k l.q ∙ m.long; placed = below_more _ _ (λ i h. get_or-set_other l.ranks l.k i l.q 0 (omega arith) ∙ m.placed i h) (get_or-set_same l.ranks l.k l.q 0 within ∙ m.counted) }

pub returns : goal.returns
unfolding ranks_of
returns c = let l = c.loop-k in
    let e : l.k ≡ 256 = omega arith in record {
      count = l.invariant.counted ∙ ap (λ (k : ℕ). count_below k (members c.args.firsts)) e;
      ranks = sym (table_list 0 l.ranks (λ k. count_below k (members c.args.firsts)) l.invariant.long (λ k h. sym (l.invariant.placed k (omega arith))));
    }
