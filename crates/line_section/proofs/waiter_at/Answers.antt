-- `line_section::waiter_at` meets its contract. Assumes nothing.
use mathlib.Core.Path.{◌≡◌, refl}
use mathlib.Core.Bool.{not, ◌||◌}
use Prim.Native.Nat.{◌+◌, ◌*◌}
use native.Mathlib.Omega.{arith}
use lib.Dec.{ltb}
use lib.ListN.{get_or}
use Rattle.std.proofs.lemmas.Bool.Decides.{nat_tests}
use Rattle.rules.specs.Base.{outside}
use Rattle.rules.specs.Sound.{waiter_sound}
use Rattle.layout.specs.Records.{waiter_at}
use Rattle.line_section.specs.Fits.{waiter_fits}
use Rattle.line_section.proofs.waiter_at.Goals as goal

pub returns : goal.returns
unfolding waiter_fits waiter_sound waiter_at outside
returns c = let mode = get_or c.args.line.now (c.args.j * 4 + 2) 0 in
    let known : c.contains.result ≡ not (ltb mode 1 || ltb 2 mode) = grind (arith, nat_tests) in
    rw (known, c.runs.ensures, c.from.ensures) refl
