-- `orders::block_sets` meets its contract: after h turns the masks of the sets of the first h groups are in the list. Assumes nothing.
use Rattle.std.proofs.Common.{◌^◌}
use Rattle.orders.specs.Ways.{leads, Blocks}
use Rattle.orders.proofs.block_sets.Given as goal

abbrev pub invariant-loop-h : goal.invariant-loop-h
invariant-loop-h l = Blocks (leads l.masks) l.blocked (2 ^ l.h)
