-- `sections::change` meets its contract. Assumes nothing.
use mathlib.Core.Path.{◌≡◌, refl}
use mathlib.Core.Bool.{not, ◌||◌}
use Prim.Native.Nat.{◌*◌}
use native.Mathlib.Omega.{arith}
use lib.Dec.{ltb}
use lib.ListN.{get_or}
use Rattle.std.proofs.lemmas.Bool.Decides.{nat_tests}
use Rattle.rules.specs.Base.{outside}
use Rattle.sections.specs.Fits.{change_fits}
use Rattle.sections.proofs.change.Goals as goal

pub returns : goal.returns
unfolding change_fits outside
returns c = let bs = c.args.changes.now in let at = c.args.c * 4 in
    let status : c.contains.result ≡ not (ltb (get_or bs at 0) 1 || ltb 5 (get_or bs at 0)) = grind (arith, nat_tests) in
    rw (status, c.from.ensures) refl
