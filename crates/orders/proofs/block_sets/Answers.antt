-- `orders::block_sets` meets its contract: after h turns the masks of the sets of the first h groups are in the list. Assumes nothing.
use Rattle.std.proofs.Common.{◌≡◌, refl, subst, ℕ, suc, ◌^◌, ◌<◌, get_or, arith}
use Rattle.orders.specs.Ways.{leads, Blocks, Extended}
use Rattle.orders.proofs.MaskLaws.{sets_most, shifted_one}
use Rattle.orders.proofs.BlockLaws.{blocks_first, blocks_next}
use Rattle.orders.proofs.block_sets.Goals as goal

pub loop-h-init : goal.loop-h-init
loop-h-init c = blocks_first (leads c.args.masks.now) c.args.blocked.now (omega arith)

pub extend-requires : goal.extend-requires
extend-requires c = let l = c.loop-h in
    let few : l.h < 12 = omega (arith, c.requires, c.loop-h-test.true) in
    omega (arith, shifted_one l.h (omega arith), sets_most (suc l.h) few)

pub loop-h-preserved : goal.loop-h-preserved
unfolding leads
loop-h-preserved c = let a = c.args in
    let l = c.loop-h in
    let x = c.extend in
    let few : l.h < 12 = omega (arith, c.requires, c.loop-h-test.true) in
    let mask = get_or a.masks.now l.h 0 in
    let e : Extended (2 ^ l.h) (2 ^ l.h) mask l.blocked x.new.blocked = subst (λ (size : ℕ). Extended size size mask l.blocked x.new.blocked) (shifted_one l.h (omega arith)) x.ensures in
    blocks_next (leads a.masks.now) l.blocked x.new.blocked l.h mask (omega arith) (λ g. refl) l.invariant e

pub returns : goal.returns
returns c = let l = c.loop-h in let e : l.h ≡ c.args.n = omega arith in subst (λ (h : ℕ). Blocks (leads c.args.masks.now) l.blocked (2 ^ h)) e l.invariant
