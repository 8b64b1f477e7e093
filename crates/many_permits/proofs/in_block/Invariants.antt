-- `many_permits::in_block` meets its contract: after some of the bytes, whether one of them is the byte. Assumes nothing.
use mathlib.Core.Path.{◌≡◌}
use Rattle.std.specs.List.{flat_map}
use Rattle.rules.specs.Base.{any_below}
use Rattle.cells.specs.Part.{byte_is}
use Rattle.many_permits.proofs.in_block.Given as goal

abbrev pub invariant-loop-b : goal.invariant-loop-b
invariant-loop-b l = l.found ≡ any_below l.b-index (byte_is (flat_map (λ row. row) l.block) 0 l.byte)
