-- Bytes joined to numbers, and back. Assumes nothing.
use mathlib.Core.Path.{◌≡◌}
use Prim.Native.Nat.{ℕ, ◌<◌}
use native.Mathlib.Omega.{arith}
use Rattle.layout.specs.Codec.{byte, join4}
use Rattle.sets.proofs.Words.{each_of_4}

pub join4_below : (f : ℕ → ℕ) → ((k : ℕ) → f k < 256) → join4 f < 4294967296
unfolding join4
join4_below f h = omega (arith, h 0, h 1, h 2, h 3)

pub byte-join4 : (f : ℕ → ℕ) → ((k : ℕ) → f k < 256) → (k : ℕ) → k < 4 → byte k (join4 f) ≡ f k
unfolding byte join4
byte-join4 f h = each_of_4 (λ (k : ℕ). byte k (join4 f) ≡ f k) (omega (arith, h 0)) (omega (arith, h 0, h 1)) (omega (arith, h 0, h 1, h 2)) (omega (arith, h 0, h 1, h 2, h 3))
