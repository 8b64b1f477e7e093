-- Which changes of a set hold an entry, by the bytes of both. Assumes nothing.
use mathlib.Core.Path.{◌≡◌, ◌∙◌, ap}
use mathlib.Core.Bool.{false}
use mathlib.Core.List.{List}
use Prim.Native.Nat.{ℕ, ◌+◌, ◌*◌, ◌/◌, ◌%◌, ◌≤◌, ◌<◌}
use native.Mathlib.Nat.{zero-add}
use native.Mathlib.Omega.{arith}
use lib.Bits.{bit_and, bit_or, and_le_r, or_lt}
use lib.ListN.{length, get_or}
use Rattle.rules.specs.Base.{any_below}
use Rattle.rules.specs.Sets.{Set, only, put_all}
use Rattle.layout.specs.Codec.{unpack, lock_section}
use Rattle.cells.proofs.Digits.{unpack_or, unpack_and}
use Rattle.sets.specs.Members.{loaded, stored}
use Rattle.sets.proofs.Bytes.{loaded_full, stored_have}
use Rattle.sets.proofs.GatherLaws.{Gathered, gathered_more}
use Rattle.locks.specs.Held.{holders_among, changed_on}
use Rattle.locks.proofs.SectionLaws.{row_loaded, row_same}
use Rattle.locks.proofs.RowLaws.{row_without_none}
use Rattle.locks.proofs.ChangeLaws.{on_entry}

-- what byte j of the readers or the writers shares with byte j of the set
abbrev shared : List ℕ → ℕ → List ℕ → ℕ → ℕ
shared locks at bytes j = bit_and (bit_or (get_or locks (at + j) 0) (get_or locks (at + 32 + j) 0)) (get_or bytes j 0)

module _ (locks : List ℕ) (at : ℕ) (bytes : List ℕ) (room : at + 64 ≤ length locks) (whole : length bytes ≡ 32) where
  -- its bits are the changes of the set that hold the entry
  shared_bit : (n b : ℕ) → n < 32 → b < 8 → unpack (shared locks at bytes n) b ≡ holders_among locks at bytes (n * 8 + b)
  unfolding holders_among
  shared_bit n b h l =
      let x : (n * 8 + b) / 8 ≡ n = omega arith in
      let y : (n * 8 + b) % 8 ≡ b = omega arith in
      rw (loaded_full locks at (omega arith) (n * 8 + b) (omega arith), loaded_full locks (at + 32) (omega arith) (n * 8 + b) (omega arith), loaded_full bytes 0 (omega arith) (n * 8 + b) (omega arith), x, y, zero-add n)
      (unpack_and (bit_or (get_or locks (at + n) 0) (get_or locks (at + 32 + n) 0)) (get_or bytes n 0) b ∙ rw (unpack_or (get_or locks (at + n) 0) (get_or locks (at + 32 + n) 0) b))

  -- one byte more in the or of all
  pub touched_more : (n acc : ℕ) → n < 32 → get_or bytes n 0 < 256 → Gathered (holders_among locks at bytes) n acc → Gathered (holders_among locks at bytes) (n + 1) (bit_or acc (shared locks at bytes n))
  touched_more n acc h small g = gathered_more (holders_among locks at bytes) n acc (bit_or acc (shared locks at bytes n))
      (or_lt 8 acc (shared locks at bytes n) g.small (omega (arith, and_le_r (bit_or (get_or locks (at + n) 0) (get_or locks (at + 32 + n) 0)) (get_or bytes n 0))))
      (λ b l. unpack_or acc (shared locks at bytes n) b ∙ rw (shared_bit n b h l)) g

-- a set stored as 32 bytes is the set that they say
pub stored_loaded : (s : Set) (d out : List ℕ) → length d ≡ 32 → length out ≡ 32 → out ≡ stored s d 0 → (k : ℕ) → k < 256 → loaded out 0 k ≡ s k
stored_loaded s d out hd ho e k h = loaded_full out 0 (omega arith) k h ∙ stored_have s d out hd e k h

-- an entry that no change of the set holds says the same without it
pub untouched : (held : ℕ → ℕ → ℕ) (e : ℕ) (s : Set) (locks bytes : List ℕ) → e < 256 → ((k : ℕ) → k < 256 → loaded bytes 0 k ≡ s k) → locks ≡ lock_section held
    → any_below 256 (holders_among locks (e * 64) bytes) ≡ false → lock_section held ≡ lock_section (changed_on (only e) (put_all s 0) held)
unfolding holders_among
untouched held e s locks bytes h says q none =
    row_same held e (put_all s 0 (held e)) (row_without_none (held e) s (loaded locks (e * 64)) (loaded locks (e * 64 + 32)) (holders_among locks (e * 64) bytes)
    (λ k. rw q (row_loaded held e 0 (e * 64) h (omega arith) (omega arith) k)) (λ k. rw q (row_loaded held e 1 (e * 64 + 32) h (omega arith) (omega arith) k)) (λ k l. rw (says k l)) none)
    ∙ ap lock_section (on_entry (put_all s 0) held e)
