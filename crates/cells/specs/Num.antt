-- Numbers in bytes, the lowest byte first. Assumes nothing.
use Rattle.std.specs.Prelude.{List, [], ◌∷◌, ℕ, zero, suc, ◌+◌, ◌*◌, ◌/◌, ◌%◌}

-- v in n bytes
unfoldable pub le : ℕ → ℕ → List ℕ
le zero v = []
le (suc n) v = v % 256 ∷ le n (v / 256)

-- the number that bytes are
unfoldable pub num : List ℕ → ℕ
num [] = 0
num (x ∷ l) = x + 256 * num l
