-- The number of orders, by the sets of what is left (dynamic programming over subsets): a set is a mask, with a bit for each member. Assumes nothing.
use mathlib.Core.Path.{◌≡◌}
use mathlib.Core.Bool.{cond, ◌&&◌}
use mathlib.Core.List.{List}
use Prim.Native.Nat.{ℕ, ◌+◌, ◌-◌, ◌*◌, ◌%◌, ◌^◌, ◌<◌}
use lib.Bits.{bit_and, bit_or, bit_xor}
use lib.ListN.{length, get_or}
use Rattle.rules.specs.Base.{any_below, count_below}
use Rattle.rules.specs.Sets.{Set, Rel}
use Rattle.rules.specs.Orders.{sum_below, ways}
use Rattle.layout.specs.Codec.{unpack}

-- a stands before b: bit b of the mask of a is set
unfoldable pub leads : List ℕ → Rel
leads masks a b = unpack (get_or masks a 0) b

-- how many orders a set of numbers below 64 has
unfoldable pub ways_of : Rel → Set → ℕ
ways_of before left = ways 64 before (count_below 64 left) left

-- a set without one of its members, whose bit is turned over; and without those of another
unfoldable pub lowered : ℕ → ℕ → ℕ
lowered mask g = bit_xor mask ((1 * 2 ^ g) % 2 ^ 64)

unfoldable pub free_of : ℕ → ℕ → ℕ
free_of left blocked = bit_and left (2 ^ 64 - 1 - blocked)

-- what a list has for the set without g, where g is free
unfoldable pub part_of : List ℕ → ℕ → ℕ → ℕ → ℕ
part_of known left free g = cond (unpack free g) (get_or known (lowered left g) 0) 0

-- the sum over all that are free
unfoldable pub sum_of : List ℕ → ℕ → ℕ → ℕ
sum_of known left free = sum_below 64 (part_of known left free)

-- a list has for each set below a mask those that a member leads
pub record Blocks (before : Rel) (list : List ℕ) (mask : ℕ) : Type 0 where
  pub lower : (m g : ℕ) → m < mask → unpack (get_or list m 0) g ≡ any_below 64 (λ h. unpack m h && before h g)

-- a list that was extended: what stood in its first places stands from `size` on too, for the first r of them, with the bits of a mask
pub record Extended (size r mask : ℕ) (old new : List ℕ) : Type 0 where
  pub long : length new ≡ length old
  pub low : (m : ℕ) → m < size → get_or new m 0 ≡ get_or old m 0
  pub high : (m : ℕ) → m < r → get_or new (size + m) 0 ≡ bit_or (get_or old m 0) mask

-- a list has for each set below a mask the number of its orders
pub record Counted (before : Rel) (list : List ℕ) (mask : ℕ) : Type 0 where
  pub lower : (m : ℕ) → m < mask → get_or list m 0 ≡ ways_of before (unpack m)
