-- `orders::sum_free` meets its contract: what is summed and what is still to be summed make up the whole sum. The measure is the mask of what is still to be summed. Assumes nothing.
use mathlib.Core.Path.{◌≡◌}
use Prim.Native.Nat.{◌+◌, ◌≤◌}
use Rattle.rules.proofs.BaseLaws.{Within}
use Rattle.layout.specs.Codec.{unpack}
use Rattle.orders.specs.Ways.{free_of, sum_of}
use Rattle.orders.proofs.sum_free.Given as goal

abbrev pub invariant-loop-free : goal.invariant-loop-free
invariant-loop-free l = (l.free ≤ l.left) × Within 64 (unpack l.free) (unpack l.left) × (l.sum + sum_of l.known l.left l.free ≡ sum_of l.known l.left (free_of l.left l.blocked))

abbrev pub decreases-loop-free : goal.decreases-loop-free
decreases-loop-free l = l.free
