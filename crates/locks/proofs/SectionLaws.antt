-- The lock section: a row's set read, a row put in place, and sections that say the same. Assumes nothing.
use mathlib.Core.Path.{◌≡◌, refl, sym, ◌∙◌, ap}
use mathlib.Core.Bool.{Bool, cond, ◌&&◌}
use mathlib.Core.List.{List}
use Prim.Native.Nat.{ℕ, zero, suc, ◌+◌, ◌*◌, ◌/◌, ◌%◌, ◌^◌, ◌<◌}
use native.Mathlib.Omega.{arith}
use lib.Dec.{eqb}
use lib.ListN.{get_or}
use borrow.Author.Tests.{lt-ltb}
use Rattle.rules.specs.Base.{put, put2}
use Rattle.rules.specs.Sets.{Set}
use Rattle.rules.proofs.BaseLaws.{Same, same, other, same?}
use Rattle.layout.specs.Codec.{bit, unpack, lock_section}
use Rattle.layout.proofs.CodecLaws.{each_mode}
use Rattle.cells.proofs.Digits.{digit, digit_bit}
use Rattle.sets.specs.Members.{loaded, stored}
use Rattle.locks.specs.Held.{Modes, in_mode}
use Rattle.locks.proofs.BitLaws.{bits_section, lock_bits, lock_bits_lem, bits_same, bits_read, bits_loaded, bits_stored}

-- the same locks below 256, the same section
section_same : (held after : ℕ → ℕ → ℕ) → ((e m c : ℕ) → e < 256 → m < 2 → c < 256 → eqb (held e c) (suc m) ≡ eqb (after e c) (suc m)) → lock_section held ≡ lock_section after
unfolding lock_bits
section_same held after h = lock_bits_lem held ∙ bits_same (lock_bits held) (lock_bits after) h ∙ sym (lock_bits_lem after)

-- the readers of a row (m is 0) or its writers (m is 1), read
pub row_loaded : (held : ℕ → ℕ → ℕ) (e m at : ℕ) → e < 256 → m < 2 → at ≡ e * 64 + m * 32 → (k : ℕ) → loaded (lock_section held) at k ≡ in_mode (suc m) (held e) k
unfolding in_mode lock_bits
row_loaded held e m at he hm place k = rw (lock_bits_lem held) (bits_loaded (lock_bits held) e m at he hm place k)

-- a row that says what the entry's own says
pub row_same : (held : ℕ → ℕ → ℕ) (e : ℕ) (row : ℕ → ℕ) → ((m c : ℕ) → m < 2 → c < 256 → eqb (held e c) (suc m) ≡ eqb (row c) (suc m)) → lock_section held ≡ lock_section (put held e row)
unfolding put
row_same held e row h = section_same held (put held e row) (λ x m c hx hm hc. go x m c hm hc (same? x e))
  where
    go : (x m c : ℕ) → m < 2 → c < 256 → {b : Bool} → Same x e b → eqb (held x c) (suc m) ≡ eqb (cond b row (held x) c) (suc m)
    go x m c hm hc (same p) = rw p (h m c hm hc)
    go x m c hm hc (other p) = refl

-- a row put in place: its two sets
pub row-stored : (held : ℕ → ℕ → ℕ) (e : ℕ) (row : ℕ → ℕ) (r w : Set) → e < 256 → ((k : ℕ) → r k ≡ in_mode 1 row k) → ((k : ℕ) → w k ≡ in_mode 2 row k)
    → stored w (stored r (lock_section held) (e * 64)) (e * 64 + 32) ≡ lock_section (put held e row)
unfolding put put2 lock_bits in_mode
row-stored held e row r w he hr hw =
    ap (λ bs. stored w (stored r bs (e * 64)) (e * 64 + 32)) (lock_bits_lem held)
    ∙ ap (λ bs. stored w bs (e * 64 + 32)) (bits_stored (lock_bits held) e 0 (e * 64) r he (omega arith) (omega arith))
    ∙ bits_stored (put2 (lock_bits held) e 0 r) e 1 (e * 64 + 32) w he (omega arith) (omega arith)
    ∙ bits_same _ _ (λ x m c hx hm hc. go x m c hc hm (same? x e))
    ∙ sym (lock_bits_lem (put held e row))
  where
    go : (x m c : ℕ) → c < 256 → m < 2 → {b : Bool} → Same x e b
        → cond (b && eqb m 1) w (cond (b && eqb m 0) r (λ d. eqb (held x d) (suc m))) c ≡ eqb (cond b row (held x) c) (suc m)
    go x zero c hc hm (same p) = hr c ∙ rw (lt-ltb c 256 hc)
    go x (suc zero) c hc hm (same p) = hw c ∙ rw (lt-ltb c 256 hc)
    go x (suc (suc m)) c hc hm (same p) = absurd (omega arith)
    go x m c hc hm (other p) = refl

-- a bit as a number
bit_of_lem : (x b : ℕ) (t : Bool) → unpack x b ≡ t → x / 2 ^ b % 2 ≡ bit t
unfolding unpack
bit_of_lem x b t h = digit_bit (digit (x / 2 ^ b)) ∙ ap bit h

-- a change's lock, read from its two bits
pub mode_read : (held : ℕ → ℕ → ℕ) (e c : ℕ) → Modes held → e < 256 → c < 256
    → get_or (lock_section held) (e * 64 + c / 8) 0 / 2 ^ (c % 8) % 2 + get_or (lock_section held) (e * 64 + c / 8 + 32) 0 / 2 ^ (c % 8) % 2 * 2 ≡ held e c
unfolding Modes lock_bits
mode_read held e c modes he hc = rw (lock_bits_lem held)
    (ap (λ n. n + get_or bits (e * 64 + c / 8 + 32) 0 / 2 ^ (c % 8) % 2 * 2) (bit_of_lem _ (c % 8) (eqb (held e c) 1) (bits_read (lock_bits held) e 0 (e * 64) he (omega arith) (omega arith) c hc))
    ∙ ap (λ n. bit (eqb (held e c) 1) + n * 2) (bit_of_lem _ (c % 8) (eqb (held e c) 2) (rw place (bits_read (lock_bits held) e 1 (e * 64 + 32) he (omega arith) (omega arith) c hc)))
    ∙ each_mode (λ x. bit (eqb x 1) + bit (eqb x 2) * 2 ≡ x) refl refl refl (held e c) (modes e c))
  where
    bits : List ℕ
    bits = bits_section (lock_bits held)

    place : e * 64 + c / 8 + 32 ≡ e * 64 + 32 + c / 8
    place = omega arith
