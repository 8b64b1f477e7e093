-- `clashes::any_held` meets its contract: there is a member where the bytes are not all 0. Assumes nothing.
use Rattle.clashes.proofs.ContestedLaws.{any-loaded}
use Rattle.clashes.proofs.any_held.Goals as goal

pub returns : goal.returns
returns c = let s = c in
    any-loaded s.args.locks.now s.args.at s.requires (λ i. (c.type_inv.locks i).fits) c.run_zero.result c.run_zero.ensures
