-- The log: records of owners that hold the write lock, and zeros. Assumes nothing.
use mathlib.Core.Path.{◌≡◌, refl, sym, ◌∙◌, ap}
use mathlib.Core.Logic.{◌↔◌}
use mathlib.Core.Bool.{true}
use mathlib.Core.List.{List}
use Prim.Native.Nat.{ℕ, zero, suc, ◌+◌, ◌*◌, ◌≤◌, ◌<◌}
use native.Mathlib.Omega.{arith}
use lib.Dec.{eqb}
use lib.ListN.{get_or, length, replicate}
use borrow.Author.Tests.{eqb-true, lt-ltb}
use Rattle.rules.specs.Base.{table}
use Rattle.rules.specs.Sets.{Set}
use Rattle.rules.specs.Window.{LogRecord}
use Rattle.rules.specs.Sound.{record_sound}
use Rattle.rules.proofs.BaseLaws.{all_below_at, all_below_intro}
use Rattle.rules.proofs.ListLaws.{all_at, all-table}
use Rattle.rules.proofs.SoundParts.{record_parts}
use Rattle.layout.specs.Codec.{byte, join4, record_in, no_record, record_bytes, log_byte, log_section}
use Rattle.layout.proofs.RecordLaws.{placed, place_at, places_again, places_rest, first_byte}
use Rattle.layout.proofs.SectionLaws.{Bytes, length-table}
use Rattle.cells.proofs.ZeroLaws.{zeros_at, zeros_all, Tested}
use Rattle.sections.specs.Fits.{writes, record_fits}
use Rattle.sections.specs.Sections.{LocksSound, LogSound}
use Rattle.sections.proofs.ByteLaws.{join4_below, byte-join4}
use Rattle.sections.proofs.LockLaws.{held-live, writes-held}

-- the log record at a place of its section
abbrev record_at : List ℕ → ℕ → LogRecord
record_at bs = record_in (λ i. get_or bs i 0)

-- `no_record` is zeros
blank : record_bytes no_record ≡ replicate 6 0
unfolding record_bytes byte
blank = refl

module _ (bs : List ℕ) (b : Bytes bs) (size : length bs ≡ 12288) (n : ℕ) (fits : n ≤ 2048)
    (locks : List ℕ) (entries : ℕ) (lives : Set) (z : LocksSound locks entries lives) where
  -- the record at a place has the bytes of the place
  whole : (j k : ℕ) → k < 6 → get_or (record_bytes (record_at bs j)) k 0 ≡ get_or bs (j * 6 + k) 0
  unfolding record_bytes
  whole j zero l = first_byte (λ i. get_or bs i 0) (j * 6)
  whole j (suc zero) l = refl
  whole j (suc (suc zero)) l = byte-join4 (λ k. get_or bs (j * 6 + (k + 2)) 0) (λ k. b (j * 6 + (k + 2))) 0 (omega arith)
  whole j (suc (suc (suc zero))) l = byte-join4 (λ k. get_or bs (j * 6 + (k + 2)) 0) (λ k. b (j * 6 + (k + 2))) 1 (omega arith)
  whole j (suc (suc (suc (suc zero)))) l = byte-join4 (λ k. get_or bs (j * 6 + (k + 2)) 0) (λ k. b (j * 6 + (k + 2))) 2 (omega arith)
  whole j (suc (suc (suc (suc (suc zero))))) l = byte-join4 (λ k. get_or bs (j * 6 + (k + 2)) 0) (λ k. b (j * 6 + (k + 2))) 3 (omega arith)
  whole j (suc (suc (suc (suc (suc (suc k)))))) l = absurd (omega arith)

  record_fine : (j : ℕ) → record_fits bs locks j ≡ true → record_sound entries lives z.held (record_at bs j) ≡ true
  unfolding record_fits record_sound
  record_fine j h =
      let o = get_or bs (j * 6) 0 in
      let e = get_or bs (j * 6 + 1) 0 in
      let w : eqb (z.held e o) 2 ≡ true = sym (writes-held z e o (b (j * 6 + 1)) (b (j * 6))) ∙ h in
      let two : z.held e o ≡ 2 = eqb-true (z.held e o) 2 w in
      let l = held-live z e o (λ none. omega (arith, two, none)) in
      rw (l.1, lt-ltb e entries l.0, lt-ltb (join4 (λ k. get_or bs (j * 6 + (k + 2)) 0)) 4294967296 (join4_below (λ k. get_or bs (j * 6 + (k + 2)) 0) (λ k. b (j * 6 + (k + 2)))), w)

  log_of : Tested n (record_fits bs locks) bs (n * 6) 12288 → LogSound bs n entries lives z.held
  unfolding log_section log_byte placed
  log_of t = record {
    log = table n 0 (record_at bs);
    size = length-table n 0 (record_at bs);
    bytes = places_again 6 (omega arith) record_bytes no_record 2048 blank n bs (record_at bs) size (λ j k h l. whole j k l) (zeros_at bs (n * 6) 12288 t.rest);
    fine = all-table (record_sound entries lives z.held) (record_at bs) n 0 (λ j l. record_fine j (all_below_at n (record_fits bs locks) t.fine j (omega arith)));
  }

  module _ (s : LogSound bs n entries lives z.held) where
    byte_at_lem : (j k : ℕ) → j < 2048 → k < 6 → get_or bs (j * 6 + k) 0 ≡ get_or (record_bytes (get_or s.log j no_record)) k 0
    unfolding log_section log_byte placed
    byte_at_lem j k h l = ap (λ x. get_or x (j * 6 + k) 0) s.bytes ∙ place_at 6 record_bytes no_record 2048 s.log j k h l

    fits_of : (j : ℕ) → j < n → record_fits bs locks j ≡ true
    unfolding record_fits record_bytes
    fits_of j h =
        let r = get_or s.log j no_record in
        let x = record_parts entries lives z.held r (all_at (record_sound entries lives z.held) no_record s.log s.fine j (rw s.size h)) in
        let o : get_or bs (j * 6) 0 ≡ r.owner = first_byte (λ i. get_or bs i 0) (j * 6) ∙ byte_at_lem j 0 (omega arith) (omega arith) in
        let e : get_or bs (j * 6 + 1) 0 ≡ r.entry = byte_at_lem j 1 (omega arith) (omega arith) in
        let w : writes locks r.entry r.owner ≡ true = writes-held z r.entry r.owner (rw e at (b (j * 6 + 1))) (rw o at (b (j * 6))) ∙ x.3 in
        rw (o, e, w)

    rest_of : (i : ℕ) → n * 6 ≤ i → i < 12288 → get_or bs i 0 ≡ 0
    unfolding log_section log_byte placed
    rest_of = places_rest 6 (omega arith) record_bytes no_record 2048 blank n bs s.log s.size s.bytes

  pub log-sound : Tested n (record_fits bs locks) bs (n * 6) 12288 ↔ LogSound bs n entries lives z.held
  log-sound = (log_of, λ s. record { fine = all_below_intro n (record_fits bs locks) (fits_of s); rest = zeros_all bs (n * 6) 12288 (rest_of s) })
