-- The bits of a number in bytes: those of its bytes, in their order. Assumes nothing.
use mathlib.Core.Path.{◌≡◌, refl, sym, ap, ap₂, ◌∙◌}
use mathlib.Core.List.{List, [], ◌∷◌}
use Prim.Native.Nat.{ℕ, zero, suc, ◌+◌, ◌-◌, ◌*◌, ◌/◌, ◌%◌, ◌^◌, ◌<◌}
use native.Mathlib.Nat.{div-div-eq-div-mul, div-one, pow-succ', zero-add}
use native.Mathlib.Decide.{dec_lt}
use native.Mathlib.Omega.{arith}
use lib.ListN.{get_or}
use Rattle.layout.specs.Codec.{byte, unpack}
use Rattle.std.proofs.lemmas.List.{get_or_past}
use Rattle.cells.specs.Part.{part}
use Rattle.cells.specs.Num.{num}
use Rattle.cells.specs.Bits.{bytes_have}
use Rattle.cells.proofs.PartLaws.{get_or_part, part_most}
use Rattle.cells.proofs.Digits.{unpack_zero, unpack_mod, unpack_shr}

-- a digit of the number of bytes is one of a byte's
pub unpack_num : (bs : List ℕ) → ((i : ℕ) → get_or bs i 0 < 256) → (k : ℕ) → unpack (num bs) k ≡ unpack (get_or bs (k / 8) 0) (k % 8)
unfolding num
unpack_num [] small k = unpack_zero k ∙ sym (unpack_zero (k % 8))
unpack_num (x ∷ bs) small k = go (dec_lt k 8) (unpack_num bs (λ i. small (suc i)) (k - 8))
  where
    go : Dec (k < 8) → unpack (num bs) (k - 8) ≡ unpack (get_or bs ((k - 8) / 8) 0) ((k - 8) % 8)
        → unpack (x + 256 * num bs) k ≡ unpack (get_or (x ∷ bs) (k / 8) 0) (k % 8)
    go (yes l) rest =
        let a : (x + 256 * num bs) % 2 ^ 8 ≡ x = omega (arith, small 0) in
        let b : k / 8 ≡ 0 = omega arith in
        let c : k % 8 ≡ k = omega arith in
        sym (unpack_mod 8 (x + 256 * num bs) k l) ∙ rw (a, b, c) refl
    go (no n) rest =
        let a : (x + 256 * num bs) / 2 ^ 8 ≡ num bs = omega (arith, small 0) in
        let b : 8 + (k - 8) ≡ k = omega arith in
        let c : k / 8 ≡ suc ((k - 8) / 8) = omega arith in
        let d : (k - 8) % 8 ≡ k % 8 = omega arith in
        ap (unpack (x + 256 * num bs)) (sym b) ∙ sym (unpack_shr 8 (x + 256 * num bs) (k - 8)) ∙ ap (λ (w : ℕ). unpack w (k - 8)) a
        ∙ rest ∙ rw (c, d) refl

-- so of the bytes of a part
pub unpack_part : (bs : List ℕ) → ((i : ℕ) → get_or bs i 0 < 256) → (at n k : ℕ) → k < 8 * n → unpack (num (part bs at n)) k ≡ bytes_have bs at k
unpack_part bs small at n k h =
    unpack_num (part bs at n) (λ i. inner i (dec_lt i n)) k ∙ ap (λ (b : ℕ). unpack b (k % 8)) (get_or_part bs at n (k / 8) (omega arith))
  where
    inner : (i : ℕ) → Dec (i < n) → get_or (part bs at n) i 0 < 256
    inner i (yes l) = rw (get_or_part bs at n i l) (small (at + i))
    inner i (no m) = rw (get_or_past (part bs at n) i 0 (part_most bs at n i (omega arith))) (omega arith)

-- a digit of a byte of a number is one of the number's
pub unpack-byte : (j w b : ℕ) → b < 8 → unpack (byte j w) b ≡ unpack w (8 * j + b)
unfolding byte
unpack-byte zero w b h = unpack_mod 8 (w / 256 ^ 0) b h ∙ ap₂ unpack (div-one w) (sym (zero-add b))
unpack-byte (suc j) w b h =
    let q : 8 + (8 * j + b) ≡ 8 * suc j + b = omega arith in
    ap (λ (x : ℕ). unpack (x % 256) b) (ap (λ (x : ℕ). w / x) (pow-succ' 256 j) ∙ sym (div-div-eq-div-mul w 256 (256 ^ j)))
    ∙ unpack-byte j (w / 256) b h ∙ unpack_shr 8 w (8 * j + b) ∙ ap (unpack w) q
