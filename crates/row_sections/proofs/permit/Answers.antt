-- `row_sections::permit` meets its contract. Assumes nothing.
use mathlib.Core.Path.{◌≡◌, refl}
use mathlib.Core.Bool.{not, ◌||◌}
use native.Mathlib.Omega.{arith}
use lib.Dec.{ltb}
use Rattle.std.proofs.lemmas.Bool.Decides.{nat_tests}
use Rattle.rules.specs.Base.{outside}
use Rattle.rules.specs.Locks.{make_permit}
use Rattle.rules.specs.Sound.{permit_sound}
use Rattle.row_sections.proofs.permit.Goals as goal

pub returns : goal.returns
unfolding permit_sound make_permit outside
returns c = let ops = c.args.ops in
    let known : c.contains.result ≡ not (ltb ops 1 || ltb 3 ops) = grind (arith, nat_tests) in
    rw (known, c.among.ensures, c.among-2.ensures, c.from.ensures) refl
