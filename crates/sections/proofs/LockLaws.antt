-- The locks: readers and writers of each entry, live and apart, and zeros. Assumes nothing.
use mathlib.Core.Path.{◌≡◌, refl, sym, ◌∙◌, ap}
use mathlib.Core.Logic.{◌↔◌, ⊎_elim}
use mathlib.Core.Bool.{Bool, true, false, not, cond, ◌&&◌, ◌||◌, false≢true, and-false}
use mathlib.Core.List.{List}
use Prim.Native.Nat.{ℕ, zero, suc, ◌+◌, ◌*◌, ◌/◌, ◌%◌, ◌^◌, ◌≤◌, ◌<◌}
use native.Mathlib.Omega.{arith}
use lib.Dec.{leb, ltb, eqb}
use lib.ListN.{get_or, length}
use borrow.Author.Tests.{not-true, not-false, eqb-true, lt-ltb, le-ltb, ltb-true}
use Rattle.rules.specs.Sets.{Set}
use Rattle.rules.specs.Sound.{held_sound}
use Rattle.rules.proofs.BaseLaws.{and_left, and_right, or_cases, no_true, all_below_at, all_below_intro, Same, same, other, same?, Below, under, over, below}
use Rattle.layout.specs.Codec.{bit, pack, unpack, lock_byte, lock_section}
use Rattle.layout.proofs.CodecLaws.{pack_most, pack_same, pack_none, unpack-pack}
use Rattle.layout.proofs.SectionLaws.{Bytes, get_or_table0, table_list}
use Rattle.cells.specs.Bits.{bytes_have}
use Rattle.cells.proofs.Digits.{unpack_zero, unpack_ext}
use Rattle.cells.proofs.ZeroLaws.{zeros_at, zeros_all, Tested}
use Rattle.locks.proofs.BitLaws.{lock_bits, lock_bits_lem, bits_read}
use Rattle.sections.specs.Fits.{reads, writes, lock_fits, row_fits}
use Rattle.sections.specs.Sections.{LocksSound}

-- n bits of a number below 2 ^ n are the number
pack-unpack : (n x : ℕ) → x < 2 ^ n → pack n (unpack x) ≡ x
pack-unpack n x h = unpack_ext n (pack n (unpack x)) x (pack_most n (unpack x)) h (unpack-pack n (unpack x))

-- who holds a lock lives, and holds it on an entry that there is
pub held-live : {bs : List ℕ} {entries : ℕ} {lives : Set} (s : LocksSound bs entries lives) (e c : ℕ) → (s.held e c ≡ 0 → ⊥) → (e < entries) × (lives c ≡ true)
unfolding held_sound
held-live {entries = entries} {lives = lives} s e c n = ⊎_elim (λ q. absurd (n (eqb-true (s.held e c) 0 q))) (λ q. (ltb-true e entries (and_left (ltb e entries) (lives c) q), and_right (ltb e entries) (lives c) q))
    (or_cases (eqb (s.held e c) 0) _ (and_right (leb (s.held e c) 2) _ (s.fine e c)))

-- a bit of an entry says whether the lock has its mode
module _ {bs : List ℕ} {entries : ℕ} {lives : Set} (s : LocksSound bs entries lives) (e c : ℕ) (he : e < 256) (hc : c < 256) where
  bit_read : (m at : ℕ) → m < 2 → at ≡ e * 64 + m * 32 → bytes_have bs at c ≡ eqb (s.held e c) (suc m)
  unfolding lock_bits
  bit_read m at hm q = ap (λ l. bytes_have l at c) (s.bytes ∙ lock_bits_lem s.held) ∙ bits_read (lock_bits s.held) e m at he hm q c hc

  reads_held : reads bs e c ≡ eqb (s.held e c) 1
  unfolding reads
  reads_held = bit_read 0 (e * 64) (omega arith) (omega arith)

  pub writes-held : writes bs e c ≡ eqb (s.held e c) 2
  unfolding writes
  writes-held = bit_read 1 (e * 64 + 32) (omega arith) (omega arith)

module _ (bs : List ℕ) (b : Bytes bs) (size : length bs ≡ 16384) (entries : ℕ) (lives : Set) (most : entries ≤ 256) where
  -- both tests
  abbrev LockTests : Type 0
  LockTests = Tested entries (row_fits bs lives) bs (entries * 64) 16384

  held_at : ℕ → ℕ → ℕ
  held_at e c = cond (ltb e 256 && ltb c 256) (cond (writes bs e c) 2 (bit (reads bs e c))) 0

  -- the bits of an entry's change
  data Bits (e c : ℕ) : Bool → Bool → Type 0 where
    none : Bits e c false false
    reader : e < entries → lives c ≡ true → Bits e c true false
    writer : e < entries → lives c ≡ true → Bits e c false true

  bits : LockTests → (e c : ℕ) → e < 256 → c < 256 → Bits e c (reads bs e c) (writes bs e c)
  unfolding reads writes
  bits t e c he hc = go (below e entries)
    where
      fits : (r w : Bool) → e < entries → not (r && w || (r || w) && not (lives c)) ≡ true → Bits e c r w
      fits true true h q = absurd (false≢true q)
      fits true false h q = reader h (not-false (lives c) (not-true _ q))
      fits false true h q = writer h (not-false (lives c) (not-true _ q))
      fits false false h q = none

      go : {x : Bool} → Below e entries x → Bits e c (bytes_have bs (e * 64) c) (bytes_have bs (e * 64 + 32) c)
      go (under h) = fits _ _ h (unfold row_fits lock_fits reads writes in all_below_at 256 (lock_fits bs lives e) (all_below_at entries (row_fits bs lives) t.fine e h) c hc)
      go (over h) = rw (zeros_at bs (entries * 64) 16384 t.rest (e * 64 + c / 8) (omega arith) (omega arith), zeros_at bs (entries * 64) 16384 t.rest (e * 64 + 32 + c / 8) (omega arith) (omega arith), unpack_zero (c % 8)) none

  -- a bit of the section is what the lock says
  bit_of_lem : LockTests → (e c m : ℕ) → e < 256 → c < 256 → m < 2 → eqb (held_at e c) (suc m) ≡ bytes_have bs (e * 64 + m * 32) c
  unfolding held_at reads writes
  bit_of_lem t e c m he hc hm = rw (lt-ltb e 256 he, lt-ltb c 256 hc) (go m hm (bits t e c he hc))
    where
      at : (x y : ℕ) → x ≡ y → unpack (get_or bs x 0) (c % 8) ≡ unpack (get_or bs y 0) (c % 8)
      at x y q = ap (λ z. unpack (get_or bs z 0) (c % 8)) q

      read_bit : {r w : Bool} → Bits e c r w → eqb (cond w 2 (bit r)) 1 ≡ r
      read_bit none = refl
      read_bit (reader h l) = refl
      read_bit (writer h l) = refl

      write_bit : {r w : Bool} → Bits e c r w → eqb (cond w 2 (bit r)) 2 ≡ w
      write_bit none = refl
      write_bit (reader h l) = refl
      write_bit (writer h l) = refl

      go : (k : ℕ) → k < 2 → Bits e c (bytes_have bs (e * 64) c) (bytes_have bs (e * 64 + 32) c)
          → eqb (cond (bytes_have bs (e * 64 + 32) c) 2 (bit (bytes_have bs (e * 64) c))) (suc k) ≡ bytes_have bs (e * 64 + k * 32) c
      go zero h x = read_bit x ∙ at (e * 64 + c / 8) (e * 64 + 0 * 32 + c / 8) (omega arith)
      go (suc zero) h x = write_bit x ∙ at (e * 64 + 32 + c / 8) (e * 64 + 1 * 32 + c / 8) (omega arith)
      go (suc (suc k)) h x = absurd (omega arith)

  locks-bytes : LockTests → bs ≡ lock_section held_at
  unfolding lock_section lock_byte
  locks-bytes t = sym (table_list 0 bs (lock_byte held_at) size go)
    where
      one : (i j : ℕ) → i < 16384 → j < 8 → eqb (held_at (i / 64) (i % 32 * 8 + j)) (suc (i % 64 / 32)) ≡ unpack (get_or bs i 0) j
      one i j h l =
          let q : i / 64 * 64 + i % 64 / 32 * 32 + (i % 32 * 8 + j) / 8 ≡ i = omega arith in
          let r : (i % 32 * 8 + j) % 8 ≡ j = omega arith in
          bit_of_lem t (i / 64) (i % 32 * 8 + j) (i % 64 / 32) (omega arith) (omega arith) (omega arith) ∙ rw (q, r)

      go : (i : ℕ) → i < 16384 → pack 8 (λ j. eqb (held_at (i / 64) (i % 32 * 8 + j)) (suc (i % 64 / 32))) ≡ get_or bs i 0
      go i h = pack_same 8 _ (unpack (get_or bs i 0)) (λ j l. one i j h l) ∙ pack-unpack 8 (get_or bs i 0) (b i)

  locks_of : LockTests → LocksSound bs entries lives
  unfolding held_sound
  locks_of t = record { held = held_at; bytes = locks-bytes t; fine = λ e c. fine e c (below e 256) (below c 256) }
    where
      known : (e c : ℕ) {r w : Bool} → Bits e c r w → leb (cond w 2 (bit r)) 2 && (eqb (cond w 2 (bit r)) 0 || (ltb e entries && lives c)) ≡ true
      known e c none = refl
      known e c (reader h l) = rw (lt-ltb e entries h, l)
      known e c (writer h l) = rw (lt-ltb e entries h, l)

      fine : (e c : ℕ) {x y : Bool} → Below e 256 x → Below c 256 y → leb (held_at e c) 2 && (eqb (held_at e c) 0 || (ltb e entries && lives c)) ≡ true
      fine e c (under h) (under l) = unfold held_at in rw (lt-ltb e 256 h, lt-ltb c 256 l) (known e c (bits t e c h l))
      fine e c (over h) l = unfold held_at in rw (le-ltb e 256 h)
      fine e c (under h) (over l) = unfold held_at in rw (le-ltb c 256 l, and-false (ltb e 256))

  module _ (s : LocksSound bs entries lives) where
    row_of : (e : ℕ) → e < entries → row_fits bs lives e ≡ true
    unfolding row_fits lock_fits
    row_of e he = all_below_intro 256 _ (λ c hc. rw (reads_held s e c (omega arith) hc, writes-held s e c (omega arith) hc) (go c (s.held e c) refl (same? (s.held e c) 1) (same? (s.held e c) 2)))
      where
        go : (c h : ℕ) → s.held e c ≡ h → {x y : Bool} → Same h 1 x → Same h 2 y → not (x && y || (x || y) && not (lives c)) ≡ true
        go c h q (same o) (same t) = absurd (omega arith)
        go c h q (same o) (other t) = rw (held-live s e c (λ z. omega (arith, q, z))).1
        go c h q (other o) (same t) = rw (held-live s e c (λ z. omega (arith, q, z))).1
        go c h q (other o) (other t) = refl

    rest_of : (i : ℕ) → entries * 64 ≤ i → i < 16384 → get_or bs i 0 ≡ 0
    unfolding lock_section lock_byte
    rest_of i h l = ap (λ x. get_or x i 0) s.bytes ∙ get_or_table0 16384 (lock_byte s.held) i 0 l ∙ pack_none 8 _ (λ j k. none_there (i / 64) (i % 32 * 8 + j) (suc (i % 64 / 32)) (omega arith) (omega arith))
      where
        none_there : (e c m : ℕ) → entries ≤ e → 0 < m → eqb (s.held e c) m ≡ false
        none_there e c m q p = no_true (eqb (s.held e c) m) (λ x. let y : s.held e c ≡ m = eqb-true (s.held e c) m x in let z = (held-live s e c (λ w. omega (arith, y, w, p))).0 in omega arith)

  pub locks-sound : LockTests ↔ LocksSound bs entries lives
  locks-sound = (locks_of, λ s. record { fine = all_below_intro entries (row_fits bs lives) (row_of s); rest = zeros_all bs (entries * 64) 16384 (rest_of s) })
