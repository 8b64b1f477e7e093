-- What is known of write, permit and depend that are not refused: each argument but write's value fits a byte, and there is room. Assumes nothing.
use mathlib.Core.Path.{◌≡◌, ap}
use mathlib.Core.Bool.{true, false, not}
use mathlib.Core.List.{List}
use Prim.Native.Nat.{ℕ, suc, ◌<◌}
use native.Mathlib.Omega.{arith}
use lib.ListN.{length}
use borrow.Author.Tests.{ltb-false}
use Rattle.rules.specs.Base.{exceeds}
use Rattle.rules.specs.Window.{limits}
use Rattle.rules.specs.Locks.{make_permit, add_permit}
use Rattle.rules.specs.Ties.{make_tie, add_tie}
use Rattle.rules.specs.Calls.{Write, Permit, Depend}
use Rattle.rules.specs.Refusals.{◌if◌, checks, first_failed}
use Rattle.rules.proofs.BaseLaws.{within_of}
use Rattle.rules.proofs.SoundParts.{inside_of}
use Rattle.layout.specs.Codec.{decode}
use Rattle.layout.specs.Memory.{sound_bytes}
use Rattle.layout.proofs.SoundCodec.{given_most}
use Rattle.layout.proofs.MemoryLaws.{bytes-sound}
use Rattle.replies.proofs.GiveLaws.{unrefused}
use Rattle.reads.proofs.ReadLaws.{change_fits_lem, entry_fits_lem}

module _ (bs : List ℕ) (s : sound_bytes bs ≡ true) where
  pub write_known : (c e v : ℕ) → first_failed (checks limits (decode bs) (Write c e v)) ≡ 0 → (c < 256) × (e < 256) × (length (decode bs).log < 2048)
  unfolding checks ◌if◌ limits
  write_known c e v q = let k = unrefused (decode bs) (Write c e v) q in (
    change_fits_lem (decode bs) (bytes-sound bs s) c k.0,
    entry_fits_lem (decode bs) (bytes-sound bs s) e k.1.0,
    within_of (suc (length (decode bs).log)) 2048 (ap not k.1.1.1.1.0),
  )

  pub permit_known : (g t e o : ℕ) → first_failed (checks limits (decode bs) (Permit g t e o)) ≡ 0
      → (g < 256) × (t < 256) × (e < 256) × (o < 256) × (exceeds (length (add_permit (make_permit g t e o) (decode bs).permits)) limits.permits ≡ false)
  unfolding checks ◌if◌
  permit_known g t e o q = let k = unrefused (decode bs) (Permit g t e o) q in (
    change_fits_lem (decode bs) (bytes-sound bs s) g k.0,
    omega (arith, given_most (decode bs) (bytes-sound bs s), ltb-false (decode bs).given t k.1.0),
    entry_fits_lem (decode bs) (bytes-sound bs s) e k.1.1.0,
    omega (arith, inside_of 1 3 o k.1.1.1.0),
    k.1.1.1.1.1.1.1.0,
  )

  pub depend_known : (k l f : ℕ) → first_failed (checks limits (decode bs) (Depend k l f)) ≡ 0
      → (k < 256) × (l < 256) × (f < 256) × (exceeds (length (add_tie (make_tie k l f) (decode bs).ties)) limits.ties ≡ false)
  unfolding checks ◌if◌
  depend_known r l f q = let k = unrefused (decode bs) (Depend r l f) q in (
    omega (arith, inside_of 1 3 r k.1.1.0),
    change_fits_lem (decode bs) (bytes-sound bs s) l k.0,
    change_fits_lem (decode bs) (bytes-sound bs s) f k.1.0,
    k.1.1.1.1.1.1.0,
  )
