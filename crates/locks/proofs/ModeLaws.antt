-- Modes and the numbers that they stand for: no mode is no lock, and the greater of two. Assumes nothing.
use mathlib.Core.Path.{◌≡◌}
use mathlib.Core.Bool.{true, false, true≢false}
use Prim.Native.Nat.{ℕ, ◌≤◌, max}
use native.Mathlib.Omega.{arith}
use Rattle.std.specs.Prelude.{Option, Some, None}
use Rattle.std.specs.Option.{is_some, option_cmp}
use Rattle.std.specs.Ordering.{is_lt, ord_max}
use Rattle.std.proofs.Common.{Ordering}
use Rattle.locks.specs.declared.modes.Mode.{Mode}
use Rattle.locks.specs.declared.modes.Mode.TheVariants.{Read, Write}
use Rattle.locks.specs.Modes.{StandsFor}

-- no mode, no lock
pub none_stands : (m : Option Mode) (v : ℕ) → StandsFor m v → v ≤ 2 → is_some m ≡ false → v ≡ 0
none_stands None v s h e = omega (arith, s.0, s.1)
none_stands (Some m) v s h e = absurd (true≢false e)

-- write is greater than read, and each than none
module _ (cmp : Mode → Mode → Ordering) (read : is_lt (cmp Read Read) ≡ false) (write : is_lt (cmp Write Write) ≡ false) (less : is_lt (cmp Read Write) ≡ true) (more : is_lt (cmp Write Read) ≡ false) where
  pub max_stands : (x y : Option Mode) (a b : ℕ) → StandsFor x a → StandsFor y b → a ≤ 2 → b ≤ 2 → StandsFor (ord_max (option_cmp cmp) x y) (max a b)
  max_stands None None a b s t h l = let p : a ≡ 0 = omega (arith, s.0, s.1) in let q : b ≡ 0 = omega (arith, t.0, t.1) in ((λ e. absurd (omega arith)), (λ e. absurd (omega arith)))
  max_stands None (Some m) a b s t h l = let p : a ≡ 0 = omega (arith, s.0, s.1) in omega arith
  max_stands (Some m) None a b s t h l = let q : b ≡ 0 = omega (arith, t.0, t.1) in omega arith
  max_stands (Some Read) (Some Read) a b s t h l = rw read (omega arith)
  max_stands (Some Read) (Some Write) a b s t h l = rw more (omega arith)
  max_stands (Some Write) (Some Read) a b s t h l = rw less (omega arith)
  max_stands (Some Write) (Some Write) a b s t h l = rw write (omega arith)
