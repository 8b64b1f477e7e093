-- The lowest holder that keeps a lock from being granted, from the sets of code. Assumes nothing.
use mathlib.Core.Path.{◌≡◌, sym, ◌∙◌}
use mathlib.Core.Bool.{true, not, and-false}
use mathlib.Core.List.{List}
use Prim.Native.Nat.{ℕ, suc, ◌≤◌, ◌<◌}
use native.Mathlib.Omega.{arith}
use lib.Dec.{eqb}
use lib.ListN.{length, take, drop}
use borrow.Author.Tests.{lt-ltb}
use Rattle.rules.specs.Base.{rising, lowest_or_zero}
use Rattle.rules.specs.Sets.{Set}
use Rattle.rules.specs.Window.{PermitRecord, permit_key}
use Rattle.rules.specs.Locks.{permitted, clashing, blocking, blocker_of}
use Rattle.rules.specs.Effects.{lock_blocker}
use Rattle.rules.proofs.BoundLaws.{lowest_as}
use Rattle.rules.proofs.SoundParts.{held-no_change, clash_left}
use Rattle.layout.specs.Codec.{locks_at, locks_size, permits_at, permits_size, lock_section, permit_section, decode}
use Rattle.layout.specs.Memory.{sound_bytes}
use Rattle.layout.proofs.SoundCodec.{given_most}
use Rattle.layout.proofs.MemoryLaws.{bytes-sound, locks_known, permits_known}
use Rattle.locks.specs.Held.{Modes, clashes_with}
use Rattle.reads.proofs.ReadLaws.{modes_known}

-- p are the clashing and g the givers of permits, as the code finds them
pub blocker_known : (bs : List ℕ) → sound_bytes bs ≡ true → (c e m n : ℕ) → 1 ≤ m → n ≡ length (decode bs).permits → (p g : Set) (found : ℕ)
    → ((held : ℕ → ℕ → ℕ) → Modes held → 0 < m → take locks_size (drop locks_at bs) ≡ lock_section held → (k : ℕ) → p k ≡ clashes_with m (held e) k)
    → ((ps : List PermitRecord) → length ps ≡ n → take permits_size (drop permits_at bs) ≡ permit_section ps → rising permit_key ps ≡ true → (k : ℕ) → g k ≡ permitted ps k c e m)
    → found ≡ lowest_or_zero 256 (blocking p g c) → found ≡ lock_blocker (decode bs) c e m
unfolding lock_blocker blocker_of blocking clashing clashes_with
blocker_known bs sound c e m n one u p g found f h q =
    let W = decode bs in
    let z = bytes-sound bs sound in
    let pf = f W.held (modes_known bs sound) one (locks_known bs sound) in
    let gf = h W.permits (sym u) (permits_known bs sound) z.permit_order in
    q ∙ lowest_as (blocking p g c) (blocking (clashing W e m) (λ d. permitted W.permits d c e m) c) (suc W.given) 256 (omega (arith, given_most W z)) (λ d l. rw (pf d, gf d, lt-ltb d 256 l))
    (λ d h l. rw (held-no_change W z.helds e d h, clash_left m, and-false (not (eqb d c))))
