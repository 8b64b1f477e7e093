-- `row_sections::tie` meets its contract. Assumes nothing.
use mathlib.Core.Path.{◌≡◌, refl}
use mathlib.Core.Bool.{not, ◌||◌}
use native.Mathlib.Omega.{arith}
use lib.Dec.{ltb}
use Rattle.std.proofs.lemmas.Bool.Decides.{nat_tests}
use Rattle.rules.specs.Base.{outside}
use Rattle.rules.specs.Ties.{is_group}
use Rattle.rules.specs.Sound.{tie_sound}
use Rattle.row_sections.proofs.tie.Goals as goal

pub returns : goal.returns
unfolding tie_sound outside is_group
returns c = let kind = c.args.kind in
    let known : c.contains.result ≡ not (ltb kind 1 || ltb 3 kind) = grind (arith, nat_tests) in
    rw (known, c.among.ensures, c.among-2.ensures) refl
