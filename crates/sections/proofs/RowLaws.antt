-- An entry's locks, byte by byte: eight changes are tested at once, and what does not fit is gathered by `|`. Assumes nothing.
use mathlib.Core.Path.{◌≡◌, sym, ap, ◌∙◌}
use mathlib.Core.Bool.{Bool, not, ◌&&◌, ◌||◌, not-not}
use mathlib.Core.List.{List}
use Prim.Native.Nat.{ℕ, ◌+◌, ◌-◌, ◌*◌, ◌/◌, ◌%◌, ◌^◌, ◌<◌}
use native.Mathlib.Nat.{zero-add}
use native.Mathlib.Omega.{arith}
use lib.Bits.{bit_and, bit_or, and_le_l, and_le_r, or_lt}
use lib.Dec.{eqb}
use lib.ListN.{get_or, length}
use Rattle.rules.specs.Base.{all_below}
use Rattle.rules.specs.Sets.{Set}
use Rattle.layout.specs.Codec.{unpack}
use Rattle.cells.specs.Bits.{bytes_have}
use Rattle.cells.proofs.Digits.{unpack_or, unpack_and, unpack_not}
use Rattle.sets.specs.Members.{stored}
use Rattle.rules.proofs.BoundLaws.{all_ext, none_as}
use Rattle.sets.proofs.GatherLaws.{Gathered, gathered_more, gathered_all}
use Rattle.sets.proofs.Bytes.{stored_have}
use Rattle.sections.specs.Fits.{reads, writes, lock_fits, row_fits}

-- a change whose locks on an entry do not fit
unfoldable pub misfits : List ℕ → Set → ℕ → Set
misfits bs lives e c = not (lock_fits bs lives e c)

-- one byte more: r of the readers, w of the writers, v of the live changes
pub gather_more : (bs live : List ℕ) (e acc i r w v : ℕ) → r ≡ get_or bs (e * 64 + i) 0 → w ≡ get_or bs (e * 64 + 32 + i) 0 → v ≡ get_or live i 0 → r < 256 → v < 256
    → Gathered (misfits bs (bytes_have live 0) e) i acc → Gathered (misfits bs (bytes_have live 0) e) (i + 1) (bit_or acc (bit_or (bit_and r w) (bit_and (bit_or r w) (2 ^ 8 - 1 - v))))
unfolding misfits lock_fits reads writes
gather_more bs live e acc i r w v er ew ev hr hv g = gathered_more (misfits bs (bytes_have live 0) e) i acc (bit_or acc (bit_or (bit_and r w) (bit_and (bit_or r w) (2 ^ 8 - 1 - v))))
    (or_lt 8 acc (bit_or (bit_and r w) (bit_and (bit_or r w) (2 ^ 8 - 1 - v))) g.small (or_lt 8 (bit_and r w) (bit_and (bit_or r w) (2 ^ 8 - 1 - v)) (omega (arith, and_le_l r w)) (omega (arith, and_le_r (bit_or r w) (2 ^ 8 - 1 - v)))))
    (λ j l.
    let q : (i * 8 + j) / 8 ≡ i = omega arith in
    let d : (i * 8 + j) % 8 ≡ j = omega arith in
    rw (
      unpack_or acc (bit_or (bit_and r w) (bit_and (bit_or r w) (2 ^ 8 - 1 - v))) j,
      unpack_or (bit_and r w) (bit_and (bit_or r w) (2 ^ 8 - 1 - v)) j,
      unpack_and r w j,
      unpack_and (bit_or r w) (2 ^ 8 - 1 - v) j,
      unpack_or r w j,
      unpack_not 8 v j hv l,
      q,
      d,
      zero-add i,
      ← er,
      ← ew,
      ← ev,
    ) (ap (λ (t : Bool). unpack acc j || t) (sym (not-not (unpack r j && unpack w j || (unpack r j || unpack w j) && not (unpack v j))))))
    g

-- of all 32 bytes: nothing was gathered where the entry's locks fit
pub row_gathered : (bs : List ℕ) (lives : Set) (e acc : ℕ) → Gathered (misfits bs lives e) 32 acc → eqb acc 0 ≡ row_fits bs lives e
unfolding row_fits misfits
row_gathered bs lives e acc g = gathered_all (misfits bs lives e) acc g ∙ none_as 256 (misfits bs lives e) (lock_fits bs lives e) (λ k h. sym (not-not (lock_fits bs lives e k)))

-- the bytes that a set is stored in say the same of the locks as the set
pub rows-stored : (bs : List ℕ) (n : ℕ) (lives : Set) (d out : List ℕ) → length d ≡ 32 → out ≡ stored lives d 0 → all_below n (row_fits bs (bytes_have out 0)) ≡ all_below n (row_fits bs lives)
unfolding row_fits lock_fits
rows-stored bs n lives d out size o = all_ext (row_fits bs (bytes_have out 0)) (row_fits bs lives) n (λ e h. all_ext (lock_fits bs (bytes_have out 0) e) (lock_fits bs lives e) 256 (λ k l. rw (stored_have lives d out size o k l)))
