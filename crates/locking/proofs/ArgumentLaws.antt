-- What is known of the arguments of a lock that is not refused: numbers that fit a byte, a mode. Assumes nothing.
use mathlib.Core.Path.{◌≡◌}
use mathlib.Core.Bool.{true, false}
use mathlib.Core.List.{List}
use Prim.Native.Nat.{ℕ, ◌≤◌, ◌<◌}
use Rattle.rules.specs.Window.{limits, no_change, no_entry}
use Rattle.rules.specs.Calls.{Lock}
use Rattle.rules.specs.Refusals.{◌if◌, checks, first_failed}
use Rattle.rules.proofs.SoundParts.{inside_of}
use Rattle.layout.specs.Codec.{decode}
use Rattle.layout.specs.Memory.{sound_bytes}
use Rattle.layout.proofs.MemoryLaws.{bytes-sound}
use Rattle.replies.proofs.GiveLaws.{unrefused}
use Rattle.reads.proofs.ReadLaws.{change_fits_lem, entry_fits_lem}

module _ (bs : List ℕ) (s : sound_bytes bs ≡ true) (c e m : ℕ) (q : first_failed (checks limits (decode bs) (Lock c e m)) ≡ 0) where
  pub lock_named : (no_change (decode bs) c ≡ false) × (no_entry (decode bs) e ≡ false)
  unfolding checks ◌if◌
  lock_named = let k = unrefused (decode bs) (Lock c e m) q in (k.0, k.1.0)

  pub lock_known : (c < 256) × (e < 256) × (1 ≤ m) × (m ≤ 2)
  unfolding checks ◌if◌
  lock_known = let k = unrefused (decode bs) (Lock c e m) q in let i = inside_of 1 2 m k.1.1.0 in (change_fits_lem (decode bs) (bytes-sound bs s) c k.0, entry_fits_lem (decode bs) (bytes-sound bs s) e k.1.0, i.0, i.1)
