-- `beside::contains_held` meets its contract: one test for each mode. Assumes nothing.
use mathlib.Core.Path.{ap₂}
use mathlib.Core.Bool.{Bool, ◌&&◌, ◌||◌}
use Rattle.beside.specs.Beside.{contains_held}
use Rattle.beside.proofs.contains_held.Goals as goal

pub returns : goal.returns
unfolding contains_held
returns c = let a = c.args in
    ap₂ (λ (read write : Bool). a.reads && read || a.writes && write) c.contains.ensures c.contains-2.ensures
