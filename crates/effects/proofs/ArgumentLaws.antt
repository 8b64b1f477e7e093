-- What is known of the arguments of an initiate that is not refused: numbers that fit a byte. Assumes nothing.
use mathlib.Core.Path.{◌≡◌, ap}
use mathlib.Core.Bool.{true, not}
use mathlib.Core.List.{List}
use Prim.Native.Nat.{ℕ, suc, ◌+◌, ◌<◌}
use native.Mathlib.Omega.{arith}
use borrow.Author.Tests.{ltb-false}
use Rattle.rules.specs.Window.{limits}
use Rattle.rules.specs.Calls.{Initiate}
use Rattle.rules.specs.Refusals.{◌if◌, checks, first_failed}
use Rattle.rules.proofs.BaseLaws.{within_of}
use Rattle.layout.specs.Codec.{decode}
use Rattle.layout.specs.Memory.{sound_bytes}
use Rattle.layout.proofs.SoundCodec.{given_most}
use Rattle.layout.proofs.MemoryLaws.{bytes-sound}
use Rattle.replies.proofs.GiveLaws.{unrefused}

module _ (bs : List ℕ) (s : sound_bytes bs ≡ true) where
  pub initiate_known : (p : ℕ) → first_failed (checks limits (decode bs) (Initiate p)) ≡ 0 → (g : ℕ) → g ≡ (decode bs).given → (g + 1 < 256) × (p < 256)
  unfolding checks ◌if◌ limits
  initiate_known p q g e = let k = unrefused (decode bs) (Initiate p) q in (
    omega (arith, within_of (suc (decode bs).given) 255 (ap not k.1.1.0)),
    omega (arith, given_most (decode bs) (bytes-sound bs s), ltb-false (decode bs).given p k.0),
  )
