-- `orders::sum_free` meets its contract: what is summed and what is still to be summed make up the whole sum. The measure is the mask of what is still to be summed. Assumes nothing.
use mathlib.Core.List.{List}
use mathlib.Core.Path.{◌≡◌, sym, ap, ◌∙◌}
use mathlib.Core.Bool.{true, not}
use Prim.Native.Nat.{ℕ, ◌+◌, ◌-◌, ◌^◌, ◌≤◌, ◌<◌}
use native.Mathlib.Nat.{zero-add, add-zero, add_assoc}
use native.Mathlib.Omega.{arith}
use lib.Bits.{and_le_l}
use lib.Count.{count_trailing_zeros}
use lib.Dec.{eqb}
use lib.ListN.{get_or}
use Rattle.rules.specs.Orders.{without}
use Rattle.rules.proofs.BaseLaws.{Within, and_left}
use Rattle.layout.specs.Codec.{unpack}
use Rattle.cells.proofs.Digits.{trailing_hit, unpack_and}
use Rattle.orders.specs.Ways.{lowered, free_of, sum_of}
use Rattle.orders.proofs.MaskLaws.{lowered_bits, lowered_less}
use Rattle.orders.proofs.CountLaws.{part_none, part-next}
use Rattle.orders.proofs.sum_free.Goals as goal

-- the lowest that is still to be summed: a member of both masks
lowest : (free left : ℕ) → left < 4096 → free ≤ left → 0 < free → Within 64 (unpack free) (unpack left) → (count_trailing_zeros 64 free < 64) × (unpack free (count_trailing_zeros 64 free) ≡ true) × (unpack left (count_trailing_zeros 64 free) ≡ true)
lowest free left small less some within =
    let w = trailing_hit 64 free (omega (arith, less, small)) some in
    (w.0, w.1, within (count_trailing_zeros 64 free) w.0 w.1)

-- the set without it is among those in the list
listed : (free left : ℕ) → left < 4096 → free ≤ left → 0 < free → Within 64 (unpack free) (unpack left) → lowered left (count_trailing_zeros 64 free) < 4096
listed free left small less some within =
    let w = lowest free left small less some within in
    omega (arith, lowered_less left (count_trailing_zeros 64 free) w.0 w.2, small)

-- one turn: what is summed and what is left to be summed
turn : (known : List ℕ) (sum free left whole : ℕ) → left < 4096 → free ≤ left → 0 < free → Within 64 (unpack free) (unpack left) → sum + sum_of known left free ≡ whole
    → sum + get_or known (lowered left (count_trailing_zeros 64 free)) 0 + sum_of known left (lowered free (count_trailing_zeros 64 free)) ≡ whole
turn known sum free left whole small less some within e =
    let g = count_trailing_zeros 64 free in
    let w = lowest free left small less some within in
    add_assoc sum (get_or known (lowered left g) 0) (sum_of known left (lowered free g)) ∙ ap (λ (x : ℕ). sum + x) (part-next known left free g w.0 w.1) ∙ e

-- the mask falls
falls : (free left : ℕ) → left < 4096 → free ≤ left → 0 < free → Within 64 (unpack free) (unpack left) → lowered free (count_trailing_zeros 64 free) < free
falls free left small less some within = let w = lowest free left small less some within in lowered_less free (count_trailing_zeros 64 free) w.0 w.1

pub loop-free-init : goal.loop-free-init
unfolding free_of
loop-free-init c = let a = c.args in
    (and_le_l _ _, λ k h e. and_left (unpack a.left k) (unpack (2 ^ 64 - 1 - a.blocked) k) (sym (unpack_and a.left (2 ^ 64 - 1 - a.blocked) k) ∙ e), zero-add _)

pub bounds-known-left : goal.bounds-known-left
unfolding lowered
bounds-known-left c = omega (arith, listed c.loop-free.free c.args.left c.requires.left_bound c.loop-free.invariant.0 (omega arith) c.loop-free.invariant.1)

pub offset_bounds-known-left : goal.offset_bounds-known-left
unfolding lowered
offset_bounds-known-left c = record { fits = omega (arith, listed c.loop-free.free c.args.left c.requires.left_bound c.loop-free.invariant.0 (omega arith) c.loop-free.invariant.1) }

pub overflow_add-sum : goal.overflow_add-sum
unfolding lowered
overflow_add-sum c = record { fits = omega (arith, turn c.args.known.now c.loop-free.sum c.loop-free.free c.args.left (sum_of c.args.known.now c.args.left (free_of c.args.left c.args.blocked)) c.requires.left_bound c.loop-free.invariant.0 (omega arith) c.loop-free.invariant.1 c.loop-free.invariant.2, c.requires.blocked_bound) }

pub loop-free-smaller : goal.loop-free-smaller
unfolding lowered
loop-free-smaller c = falls c.loop-free.free c.args.left c.requires.left_bound c.loop-free.invariant.0 (omega arith) c.loop-free.invariant.1

pub loop-free-preserved : goal.loop-free-preserved
unfolding lowered without
loop-free-preserved c = let l = c.loop-free in
    let g = count_trailing_zeros 64 l.free in
    (omega (arith, falls c.loop-free.free c.args.left c.requires.left_bound c.loop-free.invariant.0 (omega arith) c.loop-free.invariant.1, l.invariant.0), λ k h e. l.invariant.1 k h (and_left (unpack l.free k) (not (eqb k g)) (sym (lowered_bits l.free g k (lowest c.loop-free.free c.args.left c.requires.left_bound c.loop-free.invariant.0 (omega arith) c.loop-free.invariant.1).1 h) ∙ e)), turn c.args.known.now c.loop-free.sum c.loop-free.free c.args.left (sum_of c.args.known.now c.args.left (free_of c.args.left c.args.blocked)) c.requires.left_bound c.loop-free.invariant.0 (omega arith) c.loop-free.invariant.1 c.loop-free.invariant.2)

pub returns : goal.returns
returns c = let a = c.args in
    let l = c.loop-free in
    let e : l.free ≡ 0 = omega arith in
    sym (add-zero l.sum) ∙ ap (λ (x : ℕ). l.sum + x) (sym (ap (sum_of a.known.now a.left) e ∙ part_none a.known.now a.left)) ∙ l.invariant.2

pub overflow_cast-lowest : goal.overflow_cast-lowest
overflow_cast-lowest c = omega (arith, (lowest c.loop-free.free c.args.left c.requires.left_bound c.loop-free.invariant.0 (omega arith) c.loop-free.invariant.1).0)

pub overflow_shl-lowest : goal.overflow_shl-lowest
overflow_shl-lowest c = (lowest c.loop-free.free c.args.left c.requires.left_bound c.loop-free.invariant.0 (omega arith) c.loop-free.invariant.1).0
