-- `places::with_status` meets its contract. Assumes nothing.
use mathlib.Core.Path.{◌∙◌, ap}
use mathlib.Core.Bool.{Bool, ◌&&◌}
use lib.Dec.{ltb}
use Prim.Native.Nat.{suc}
use Rattle.places.proofs.StatusLaws.{only-status}
use Rattle.places.proofs.with_status.Goals as goal

pub returns : goal.returns
returns c = let a = c.args in λ st pa e k. c.within.ensures st pa e k ∙ ap (λ (b : Bool). ltb k (suc a.given) && b) (only-status a.s (st k))
