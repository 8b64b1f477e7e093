-- `many_permits::in_block` meets its contract: after some of the bytes, whether one of them is the byte. Assumes nothing.
use mathlib.Core.Path.{refl, ap, ◌∙◌}
use mathlib.Core.Bool.{◌||◌}
use mathlib.Core.List.{List}
use Prim.Native.Nat.{ℕ}
use native.Mathlib.Omega.{arith}
use lib.Dec.{eqb}
use lib.ListN.{get_or}
use Rattle.std.specs.List.{flat_map}
use Rattle.rules.specs.Base.{any_below}
use Rattle.rules.proofs.TurnLaws.{found-next}
use Rattle.cells.specs.Part.{byte_is}
use Rattle.many_permits.proofs.in_block.Goals as goal

pub loop-b-init : goal.loop-b-init
unfolding any_below
loop-b-init c = refl

pub loop-b-preserved : goal.loop-b-preserved
unfolding byte_is
loop-b-preserved c = let l = c.loop-b in
    let a = c.args in
    found-next (byte_is (flat_map (λ row. row) a.block.now) 0 a.byte) l.b-index l.found _ l.invariant
    (ap (λ (xs : List ℕ). l.found || eqb (get_or xs l.b-index 0) a.byte) c.as_flattened-b-items.ensures.value ∙ ap (λ (k : ℕ). l.found || eqb (get_or (flat_map (λ row. row) a.block.now) k 0) a.byte) (omega arith))

pub returns : goal.returns
returns c = let l = c.loop-b in
    l.invariant ∙ ap (λ (n : ℕ). any_below n (byte_is (flat_map (λ row. row) c.args.block.now) 0 c.args.byte)) (omega arith)
