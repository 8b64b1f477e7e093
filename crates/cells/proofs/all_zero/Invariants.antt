-- `cells::all_zero` meets its contract: all bytes below i are 0, and the last block has those that are left. Assumes nothing.
use mathlib.Core.Path.{◌≡◌}
use mathlib.Core.Bool.{true}
use Prim.Native.Nat.{◌-◌, ◌≤◌}
use Rattle.rules.specs.Base.{all_below}
use Rattle.cells.specs.Part.{byte_is}
use Rattle.cells.proofs.all_zero.Given as goal

abbrev pub invariant-loop-i : goal.invariant-loop-i
invariant-loop-i l = (l.from ≤ l.i) × (all_below (l.i - l.from) (byte_is l.s l.from 0) ≡ true)
