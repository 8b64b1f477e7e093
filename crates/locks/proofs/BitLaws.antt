-- The lock section by its bits: one bit for each entry, mode and change; a set read from it and a set put into it. Assumes nothing.
use mathlib.Core.Path.{◌≡◌, refl, sym, ◌∙◌, ap}
use mathlib.Core.Bool.{Bool, true, cond, ◌&&◌}
use mathlib.Core.List.{List}
use Prim.Native.Nat.{ℕ, suc, ◌+◌, ◌*◌, ◌/◌, ◌%◌, ◌≤◌, ◌<◌}
use native.Mathlib.Nat.{zero-add}
use native.Mathlib.Omega.{arith}
use lib.Dec.{ltb, eqb}
use borrow.Author.Tests.{le-leb}
use Rattle.rules.specs.Base.{put2, table}
use Rattle.rules.specs.Sets.{Set}
use Rattle.rules.proofs.BaseLaws.{Below, under, over, below, Same, same, other, same?, eqb_same}
use Rattle.layout.specs.Codec.{pack, unpack, lock_byte, lock_section, locks_size}
use Rattle.layout.proofs.CodecLaws.{pack_same, unpack-pack}
use Rattle.layout.proofs.SectionLaws.{length-table, get_or_table0, table_same}
use Rattle.cells.specs.Bits.{bytes_have}
use Rattle.cells.proofs.TableLaws.{patch-table}
use Rattle.sets.specs.Members.{loaded, set_byte, set_bytes, stored}

-- a bit for each entry, mode less one and change
abbrev pub Bits : Type 0
Bits = ℕ → ℕ → Set

-- byte i of a section of bits; the whole section
unfoldable pub bits_byte : Bits → ℕ → ℕ
bits_byte t i = pack 8 (λ b. t (i / 64) (i % 64 / 32) (i % 32 * 8 + b))

unfoldable pub bits_section : Bits → List ℕ
bits_section t = table locks_size 0 (bits_byte t)

-- those of the locks
unfoldable pub lock_bits : (ℕ → ℕ → ℕ) → Bits
lock_bits held e m c = eqb (held e c) (suc m)

-- the lock section is theirs
pub lock_bits_lem : (held : ℕ → ℕ → ℕ) → lock_section held ≡ bits_section (lock_bits held)
unfolding lock_section lock_byte bits_section bits_byte lock_bits
lock_bits_lem held = refl

-- the same bits, the same bytes
pub bits_same : (t u : Bits) → ((e m c : ℕ) → e < 256 → m < 2 → c < 256 → t e m c ≡ u e m c) → bits_section t ≡ bits_section u
unfolding bits_section bits_byte
bits_same t u h = table_same locks_size 0 0 (bits_byte t) (bits_byte u)
    (λ i l. rw (zero-add i) (pack_same 8 _ _ (λ b k. h (i / 64) (i % 64 / 32) (i % 32 * 8 + b) (omega arith) (omega arith) (omega arith))))

-- the 32 bytes of an entry and a mode
module _ (t : Bits) (e m at : ℕ) (he : e < 256) (hm : m < 2) (place : at ≡ e * 64 + m * 32) where
  -- their bytes are those of the set
  bits_byte_lem : (j : ℕ) → j < 32 → bits_byte t (at + j) ≡ set_byte (t e m) j
  unfolding bits_byte set_byte
  bits_byte_lem j h =
      let a : (at + j) / 64 ≡ e = omega arith in
      let b : (at + j) % 64 / 32 ≡ m = omega arith in
      let d : (at + j) % 32 ≡ j = omega arith in
      rw (a, b, d)

  -- one bit read
  pub bits_read : (k : ℕ) → k < 256 → bytes_have (bits_section t) at k ≡ t e m k
  unfolding bits_section set_byte
  bits_read k h = let z : k / 8 * 8 + k % 8 ≡ k = omega arith in
      ap (λ x. unpack x (k % 8)) (get_or_table0 locks_size (bits_byte t) (at + k / 8) 0 (omega arith) ∙ bits_byte_lem (k / 8) (omega arith))
      ∙ unpack-pack 8 (λ b. t e m (k / 8 * 8 + b)) (k % 8) (omega arith) ∙ ap (t e m) z

  -- all read as a set
  pub bits_loaded : (k : ℕ) → loaded (bits_section t) at k ≡ ltb k 256 && t e m k
  unfolding loaded bits_section
  bits_loaded k = rw (length-table, le-leb (at + 32) locks_size (omega arith)) (go (below k 256))
    where
      go : {b : Bool} → Below k 256 b → b && true && bytes_have (table locks_size 0 (bits_byte t)) at k ≡ b && t e m k
      go (under h) = bits_read k h
      go (over h) = refl

-- a set put there
pub bits_stored : (t : Bits) (e m at : ℕ) (s : Set) → e < 256 → m < 2 → at ≡ e * 64 + m * 32 → stored s (bits_section t) at ≡ bits_section (put2 t e m s)
unfolding stored set_bytes bits_section bits_byte put2
bits_stored t e m at s he hm place = rw (length-table, le-leb (at + 32) locks_size (omega arith))
    (patch-table locks_size at 32 (bits_byte t) (set_byte s) (bits_byte (put2 t e m s)) (omega arith) inner outer)
  where
    inner : (i : ℕ) → i < 32 → set_byte s i ≡ bits_byte (put2 t e m s) (at + i)
    inner i h = sym (bits_byte_lem (put2 t e m s) e m at he hm place i h ∙ rw (eqb_same e, eqb_same m))

    go : (i : ℕ) → (at ≤ i → i < at + 32 → ⊥) → {a b : Bool} → Same (i / 64) e a → Same (i % 64 / 32) m b → t (i / 64) (i % 64 / 32) ≡ cond (a && b) s (t (i / 64) (i % 64 / 32))
    go i out (same p) (same q) = absurd (out (omega arith) (omega arith))
    go i out (same p) (other q) = refl
    go i out (other p) q = refl

    outer : (i : ℕ) → i < locks_size → (at ≤ i → i < at + 32 → ⊥) → bits_byte t i ≡ bits_byte (put2 t e m s) i
    outer i l out = ap (λ u. pack 8 (λ b. u (i % 32 * 8 + b))) (go i out (same? (i / 64) e) (same? (i % 64 / 32) m))
