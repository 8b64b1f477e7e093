-- Numbers in bytes: what the code reads and writes. Assumes nothing.
use mathlib.Core.Path.{◌≡◌, refl, sym, ap, ap₂, ◌∙◌}
use mathlib.Core.List.{List, [], ◌∷◌}
use Prim.Native.Nat.{ℕ, zero, suc, ◌+◌, ◌/◌, ◌%◌, ◌^◌, ◌≤◌, ◌<◌}
use native.Mathlib.Nat.{pow-suc, pow-succ', pow-zero, div-div-eq-div-mul, div-one, div-lt_iff_lt-mul, zero-lt-suc, le_of_suc-le-suc, not-suc-le-zero}
use native.Mathlib.Omega.{arith}
use native.Mathlib.Numerals.{towards_suc}
use lib.ListN.{length, get_or, set}
use Rattle.std.specs.Int.{byte_at, bytes_low_first}
use Rattle.rules.specs.Base.{table}
use Rattle.layout.specs.Codec.{byte}
use Rattle.layout.proofs.SectionLaws.{table_list}
use Rattle.cells.specs.Part.{part, patch}
use Rattle.cells.specs.Num.{le, num}
use Rattle.cells.proofs.PartLaws.{part_cons, sets_patch}

-- how many bytes
pub length-le : (n v : ℕ) → length (le n v) ≡ n
unfolding le
length-le zero v = refl
length-le (suc n) v = ap suc (length-le n (v / 256))

-- byte j of a number in n bytes
pub le-byte : (n j v : ℕ) → j < n → get_or (le n v) j 0 ≡ byte j v
unfolding le byte
le-byte zero j v h = absurd (not-suc-le-zero h)
le-byte (suc n) zero v h = ap (λ (x : ℕ). x % 256) (sym (div-one v))
le-byte (suc n) (suc j) v h = le-byte n j (v / 256) (le_of_suc-le-suc h)
    ∙ ap (λ (x : ℕ). x % 256) (div-div-eq-div-mul v 256 (256 ^ j) ∙ ap (λ (x : ℕ). v / x) (sym (pow-succ' 256 j)))

-- its n bytes
pub le_bytes : (n v : ℕ) → le n v ≡ table n 0 (λ j. byte j v)
le_bytes n v = sym (table_list 0 (le n v) (λ j. byte j v) (length-le n v) (λ j h. sym (le-byte n j v h)))

-- what was stored is read
pub num-le : (n v : ℕ) → v < 256 ^ n → num (le n v) ≡ v
unfolding le num
num-le zero v h = sym (omega (arith, pow-zero 256))
num-le (suc n) v h =
    let q : v / 256 < 256 ^ n = (div-lt_iff_lt-mul (zero-lt-suc 255)).1 (rw pow-suc at h) in
    rw (num-le n (v / 256) q) (omega arith)

-- two bytes, as straight-line code reads them
pub part2 : (l : List ℕ) (at : ℕ) → at + 2 ≤ length l → part l at 2 ≡ get_or l at 0 ∷ get_or l (at + 1) 0 ∷ []
unfolding part
part2 l at h = simp towards_suc (part_cons l at 1 (omega arith) ∙ ap (λ (r : List ℕ). get_or l at 0 ∷ r) (part_cons l (suc at) 0 (omega arith)))

-- four bytes
pub part4 : (l : List ℕ) (at : ℕ) → at + 4 ≤ length l → part l at 4 ≡ get_or l at 0 ∷ get_or l (at + 1) 0 ∷ get_or l (at + 2) 0 ∷ get_or l (at + 3) 0 ∷ []
part4 l at h = simp towards_suc (part_cons l at 3 (omega arith) ∙ ap (λ (r : List ℕ). get_or l at 0 ∷ r) (part_cons l (suc at) 2 (omega arith)
    ∙ ap (λ (r : List ℕ). get_or l (suc at) 0 ∷ r) (simp towards_suc at (part2 l (suc (suc at)) (omega arith)))))

-- eight
pub part8 : (l : List ℕ) (at : ℕ) → at + 8 ≤ length l
    → part l at 8 ≡ get_or l at 0 ∷ get_or l (at + 1) 0 ∷ get_or l (at + 2) 0 ∷ get_or l (at + 3) 0 ∷ get_or l (at + 4) 0 ∷ get_or l (at + 5) 0 ∷ get_or l (at + 6) 0 ∷ get_or l (at + 7) 0 ∷ []
part8 l at h = simp towards_suc (part_cons l at 7 (omega arith) ∙ ap (λ (r : List ℕ). get_or l at 0 ∷ r) (part_cons l (suc at) 6 (omega arith)
    ∙ ap (λ (r : List ℕ). get_or l (suc at) 0 ∷ r) (part_cons l (suc (suc at)) 5 (omega arith)
    ∙ ap (λ (r : List ℕ). get_or l (suc (suc at)) 0 ∷ r) (part_cons l (suc (suc (suc at))) 4 (omega arith)
    ∙ ap (λ (r : List ℕ). get_or l (suc (suc (suc at))) 0 ∷ r) (simp towards_suc at (part4 l (suc (suc (suc (suc at)))) (omega arith)))))))

-- the bytes that `to_le_bytes` gives
low_bytes : (i n v : ℕ) → bytes_low_first i n v ≡ le n (v / 256 ^ i)
unfolding le
low_bytes i zero v = refl
low_bytes i (suc n) v = ap₂ (λ (x : ℕ) (r : List ℕ). x ∷ r) (here i)
    (low_bytes (suc i) n v ∙ ap (le n) (ap (λ (x : ℕ). v / x) (pow-suc 256 i) ∙ sym (div-div-eq-div-mul v (256 ^ i) 256)))
  where
    here : (i : ℕ) → byte_at i v ≡ v / 256 ^ i % 256
    here zero = ap (λ (x : ℕ). x % 256) (sym (div-one v))
    here (suc i) = refl

pub to_le : (n v : ℕ) → bytes_low_first 0 n v ≡ le n v
to_le n v = low_bytes 0 n v ∙ ap (le n) (div-one v)

-- the stores of four bytes that straight-line code leaves
pub patch4 : (l : List ℕ) (at a b c d : ℕ) → at + 4 ≤ length l → set (set (set (set l at a) (at + 1) b) (at + 2) c) (at + 3) d ≡ patch l at (a ∷ b ∷ c ∷ d ∷ [])
patch4 l at a b c d h = simp towards_suc (sets_patch l at (a ∷ b ∷ c ∷ d ∷ []) h)
