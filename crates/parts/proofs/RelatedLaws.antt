-- The bytes of the ties. Assumes nothing.
use mathlib.Core.Path.{◌≡◌, refl}
use mathlib.Core.List.{List}
use Prim.Native.Nat.{ℕ}
use lib.ListN.{take, drop}
use Rattle.layout.specs.Codec.{ties_at, ties_size}
use Rattle.cells.specs.Part.{part}

-- they are those that the code takes (with numbers as variables, so that a tactic can use it)
pub ties_taken : (l : List ℕ) (at n : ℕ) → at ≡ ties_at → n ≡ ties_size → part l at n ≡ take n (drop at l)
unfolding part
ties_taken l at n p q = refl
