-- `orders::count_masks` meets its contract: the number of the set of all groups is that of their orders. Assumes nothing.
use Rattle.std.proofs.Common.{ap, ◌∙◌, ℕ, ◌-◌, get_or, arith}
use lib.Pow.{pow_pos}
use Rattle.orders.specs.Ways.{leads}
use Rattle.orders.proofs.MaskLaws.{sets_most, shifted_one}
use Rattle.orders.proofs.CountLaws.{counted-all}
use Rattle.orders.proofs.count_masks.Goals as goal

pub bounds-known-n : goal.bounds-known-n
bounds-known-n c = let n = c.args.n in omega (arith, shifted_one n (omega (arith, c.requires)), sets_most n c.requires, pow_pos n)

pub returns : goal.returns
returns c = let n = c.args.n in
    let r = c.count_sets in
    ap (λ (m : ℕ). get_or r.new.known (m - 1) 0) (shifted_one n (omega (arith, c.requires))) ∙ counted-all n (omega (arith, c.requires)) (leads c.args.masks.now) r.new.known r.ensures
