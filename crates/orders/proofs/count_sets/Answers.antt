-- `orders::count_sets` meets its contract: the numbers of all lower masks are in the list. Assumes nothing.
use Rattle.std.proofs.Common.{◌≡◌, subst, ◌∙◌, List, ℕ, ◌*◌, ◌%◌, ◌^◌, ◌≤◌, ◌<◌, length, length-set, get_or, arith, rules}
use lib.Pow.{pow_pos}
use Rattle.rules.specs.Sets.{Rel}
use Rattle.layout.specs.Codec.{unpack}
use Rattle.orders.specs.Ways.{leads, ways_of, free_of, sum_of, Blocks, Counted}
use Rattle.orders.proofs.MaskLaws.{sets_most, shifted_one, in_sets}
use Rattle.orders.proofs.CountLaws.{ways_fit, ways_sum, counted-first, counted_next}
use Rattle.orders.proofs.count_sets.Goals as goal

-- the sum is the number of orders
whole : (before : Rel) (known blocked : List ℕ) (left n : ℕ) → n ≤ 12 → 0 < left → left < (1 * 2 ^ n) % 2 ^ 64 → Counted before known left → Blocks before blocked (2 ^ n) → get_or blocked left 0 < 2 ^ 64
    → sum_of known left (free_of left (get_or blocked left 0)) ≡ ways_of before (unpack left)
whole before known blocked left n few some fits counted blocks small = ways_sum before known blocked left (2 ^ n) some (in_sets n left few fits).0 (sets_most n few) counted blocks small

pub loop-left-init : goal.loop-left-init
loop-left-init c = let long : length c.args.known.now ≡ 4096 = search rules in (length-set c.args.known.now 0 _ ∙ long, counted-first (leads c.args.masks.now) c.args.known.now (omega arith))

pub bounds-blocked-left : goal.bounds-blocked-left
bounds-blocked-left c = omega (arith, in_sets c.args.n c.loop-left.left c.requires c.loop-left-test.true)

pub sum_free-requires : goal.sum_free-requires
sum_free-requires c = let l = c.loop-left in
    let w = in_sets c.args.n l.left c.requires c.loop-left-test.true in record {
      left_bound = w.1;
      blocked_bound = omega (arith, whole (leads c.args.masks.now) l.known c.block_sets.new.blocked l.left c.args.n c.requires (omega arith) c.loop-left-test.true l.invariant.1 c.block_sets.ensures (search rules), ways_fit (leads c.args.masks.now) l.left w.1);
    }

pub bounds-known-left : goal.bounds-known-left
bounds-known-left c = omega (arith, in_sets c.args.n c.loop-left.left c.requires c.loop-left-test.true)

pub loop-left-preserved : goal.loop-left-preserved
loop-left-preserved c = let l = c.loop-left in
    let w = in_sets c.args.n l.left c.requires c.loop-left-test.true in (
      length-set l.known l.left c.sum_free.result ∙ l.invariant.0,
      counted_next (leads c.args.masks.now) l.known l.left c.sum_free.result (omega (arith, w.1, l.invariant.0)) l.invariant.1
          (c.sum_free.ensures ∙ whole (leads c.args.masks.now) l.known c.block_sets.new.blocked l.left c.args.n c.requires (omega arith) c.loop-left-test.true l.invariant.1 c.block_sets.ensures (search rules)),
    )

pub returns : goal.returns
returns c = let n = c.args.n in
    let l = c.loop-left in
    let one = shifted_one n (omega (arith, c.requires)) in
    let most : l.left ≤ (1 * 2 ^ n) % 2 ^ 64 = l.auto.left-end (omega (arith, one, pow_pos n)) in
    let e : l.left ≡ 2 ^ n = omega (arith, one, most, c.loop-left-test.false) in
    subst (λ (m : ℕ). Counted (leads c.args.masks.now) l.known m) e l.invariant.1
