-- `orders::count_sets` meets its contract: the numbers of all lower masks are in the list. Assumes nothing.
use Rattle.std.proofs.Common.{◌≡◌, length}
use Rattle.orders.specs.Ways.{leads, Counted}
use Rattle.orders.proofs.count_sets.Given as goal

abbrev pub invariant-loop-left : goal.invariant-loop-left
invariant-loop-left l = (length l.known ≡ 4096) × Counted (leads l.masks) l.known l.left
