-- A section of records, each of so many bytes: its records' bytes one after the other, and zeros. Assumes nothing.
use mathlib.Core.Path.{◌≡◌, refl, sym, ◌∙◌, ap}
use mathlib.Core.Bool.{Bool}
use mathlib.Core.List.{List, [], ◌∷◌, ◌++◌, append_assoc, flat_map}
use Prim.Native.Nat.{ℕ, zero, suc, ◌+◌, ◌-◌, ◌*◌, ◌/◌, ◌%◌, ◌≤◌, ◌<◌}
use native.Mathlib.Nat.{div-add-mod', div-lt_iff_lt-mul, mul-le-mul_right, le-div_iff_mul-le, add-zero, add-div_right, add-mod_right, div-eq_of_lt, mod-eq_of_lt, mod-lt, suc-mul, add_comm, sub-zero, suc-sub-suc, le_of_suc-le-suc, not-suc-le-zero}
use native.Mathlib.Numerals.{add-one}
use native.Mathlib.Omega.{arith}
use lib.Arith.{digits_lt, digits_div, digits_mod}
use lib.ListN.{get_or, length, replicate, length-replicate, get_or-replicate, get_or-eq_default}
use Rattle.rules.specs.Base.{table}
use Rattle.rules.specs.Window.{LogRecord, PermitRecord, TieRecord, LineRecord}
use Rattle.rules.proofs.BaseLaws.{Below, under, over, below}
use Rattle.rules.proofs.ListLaws.{table-append}
use Rattle.layout.specs.Codec.{no_record, no_permit, no_tie, no_waiter, byte, permit_bytes, permit_byte, tie_bytes, tie_byte, waiter_bytes, line_byte, record_bytes, log_byte, permit_section, tie_section, line_section, log_section, permit_in, tie_in, waiter_in}
use Rattle.layout.proofs.SectionLaws.{length-table, get_or_table0, table_list, table_same}

-- a table of zeros
pub table_zeros : (k : ℕ) (f : ℕ → ℕ) → ((j : ℕ) → f j ≡ 0) → table k 0 f ≡ replicate k 0
table_zeros k f h = table_list 0 (replicate k 0) f (length-replicate k 0) (λ j l. h j ∙ sym (get_or-replicate k j 0 0 l))

-- byte i of a section of w bytes for each place, where place k has the bytes f k
unfoldable pub placed : ℕ → (ℕ → List ℕ) → ℕ → ℕ
placed w f i = get_or (f (i / w)) (i % w) 0

-- of one whose places have the bytes of records
abbrev pub place_byte {ℓ} : {A : Type ℓ} → ℕ → (A → List ℕ) → A → List A → ℕ → ℕ
place_byte w bytes none l = placed w (λ j. bytes (get_or l j none))

module _ {ℓ} {A : Type ℓ} (w : ℕ) (pos : 0 < w) (bytes : A → List ℕ) (none : A) (size : (x : A) → length (bytes x) ≡ w) (blank : bytes none ≡ replicate w 0) where
  no_place : (i : ℕ) → place_byte w bytes none [] i ≡ 0
  unfolding placed
  no_place i = rw blank (get_or-replicate w (i % w) 0 0 (mod-lt i pos))

  first-place : (x : A) (l : List A) → table w 0 (place_byte w bytes none (x ∷ l)) ≡ bytes x
  unfolding placed
  first-place x l = table_list 0 (bytes x) (place_byte w bytes none (x ∷ l)) (size x) (λ j h. rw (div-eq_of_lt h, mod-eq_of_lt h))

  next_place : (x : A) (l : List A) (j : ℕ) → place_byte w bytes none (x ∷ l) (j + w) ≡ place_byte w bytes none l j
  unfolding placed
  next_place x l j = rw (add-div_right j pos, add-mod_right j w, add-one)

  -- the section is the records' bytes and zeros
  records_flat : (most : ℕ) (l : List A) → length l ≤ most → table (most * w) 0 (place_byte w bytes none l) ≡ flat_map bytes l ++ replicate ((most - length l) * w) 0
  unfolding flat_map
  records_flat most [] h = rw (sub-zero most) (table_zeros (most * w) (place_byte w bytes none []) no_place)
  records_flat zero (x ∷ l) h = absurd (not-suc-le-zero h)
  records_flat (suc most) (x ∷ l) h =
      ap (λ k. table k 0 (place_byte w bytes none (x ∷ l))) (suc-mul most w ∙ add_comm (most * w) w)
      ∙ table-append w (most * w) 0 (place_byte w bytes none (x ∷ l))
      ∙ ap (λ r. r ++ table (most * w) (0 + w) (place_byte w bytes none (x ∷ l))) (first-place x l)
      ∙ ap (λ r. bytes x ++ r) (table_same (most * w) (0 + w) 0 _ (place_byte w bytes none l) (λ j h'. ap (place_byte w bytes none (x ∷ l)) (omega arith) ∙ next_place x l (0 + j)) ∙ records_flat most l (le_of_suc-le-suc h))
      ∙ sym (append_assoc (bytes x) (flat_map bytes l) (replicate ((most - length l) * w) 0))
      ∙ ap (λ k. (bytes x ++ flat_map bytes l) ++ replicate (k * w) 0) (sym (suc-sub-suc most (length l)))

-- the four sections of records
pub permits_flat : (l : List PermitRecord) → length l ≤ 1024 → permit_section l ≡ flat_map permit_bytes l ++ replicate ((1024 - length l) * 4) 0
unfolding permit_section permit_byte permit_bytes placed
permits_flat l h = records_flat 4 (omega arith) permit_bytes no_permit (λ p. refl) refl 1024 l h

pub ties_flat : (l : List TieRecord) → length l ≤ 512 → tie_section l ≡ flat_map tie_bytes l ++ replicate ((512 - length l) * 4) 0
unfolding tie_section tie_byte tie_bytes placed
ties_flat l h = records_flat 4 (omega arith) tie_bytes no_tie (λ p. refl) refl 512 l h

pub line_flat : (l : List LineRecord) → length l ≤ 256 → line_section l ≡ flat_map waiter_bytes l ++ replicate ((256 - length l) * 4) 0
unfolding line_section line_byte waiter_bytes placed
line_flat l h = records_flat 4 (omega arith) waiter_bytes no_waiter (λ p. refl) refl 256 l h

pub log_flat : (l : List LogRecord) → length l ≤ 2048 → log_section l ≡ flat_map record_bytes l ++ replicate ((2048 - length l) * 6) 0
unfolding log_section log_byte record_bytes placed byte
log_flat l h = records_flat 6 (omega arith) record_bytes no_record (λ p. refl) refl 2048 l h

-- the first byte of a place
pub first_byte : (f : ℕ → ℕ) (at : ℕ) → f at ≡ f (at + 0)
first_byte f at = ap f (sym (add-zero at))

-- a place with a record's bytes holds the record
pub permit_again : (f : ℕ → ℕ) (x : PermitRecord) (j : ℕ) → ((k : ℕ) → k < 4 → f (j * 4 + k) ≡ get_or (permit_bytes x) k 0) → permit_in f j ≡ x
unfolding permit_bytes
permit_again f x j h = λ i. record { entry = (first_byte f (j * 4) ∙ h 0 (omega arith)) i; giver = h 1 (omega arith) i; taker = h 2 (omega arith) i; ops = h 3 (omega arith) i }

pub tie_again : (f : ℕ → ℕ) (x : TieRecord) (j : ℕ) → ((k : ℕ) → k < 4 → f (j * 4 + k) ≡ get_or (tie_bytes x) k 0) → tie_in f j ≡ x
unfolding tie_bytes
tie_again f x j h = λ i. record { kind = (first_byte f (j * 4) ∙ h 0 (omega arith)) i; leader = h 1 (omega arith) i; follower = h 2 (omega arith) i }

pub waiter_again : (f : ℕ → ℕ) (x : LineRecord) (j : ℕ) → ((k : ℕ) → k < 4 → f (j * 4 + k) ≡ get_or (waiter_bytes x) k 0) → waiter_in f j ≡ x
unfolding waiter_bytes
waiter_again f x j h = λ i. record { change = (first_byte f (j * 4) ∙ h 0 (omega arith)) i; entry = h 1 (omega arith) i; mode = h 2 (omega arith) i }

-- A SECTION THAT HAS w BYTES FOR EACH PLACE
module _ (w n : ℕ) where
  -- byte j of place k
  pub cell_read : (f : ℕ → List ℕ) (k j : ℕ) → k < n → j < w → get_or (table (n * w) 0 (placed w f)) (k * w + j) 0 ≡ get_or (f k) j 0
  unfolding placed
  cell_read f k j h t = get_or_table0 (n * w) (placed w f) (k * w + j) 0 (digits_lt h t) ∙ rw (digits_div k t, digits_mod k t)

  -- a list of bytes is the section that it is byte by byte
  pub by_cells : 0 < w → (s : List ℕ) (g : ℕ → List ℕ) → length s ≡ n * w → ((k j : ℕ) → k < n → j < w → get_or s (k * w + j) 0 ≡ get_or (g k) j 0) → s ≡ table (n * w) 0 (placed w g)
  unfolding placed
  by_cells pos s g e f = sym (table_list 0 s (placed w g) e
      (λ i h. sym (f (i / w) (i % w) ((div-lt_iff_lt-mul pos).1 h) (mod-lt i pos)) ∙ ap (λ (x : ℕ). get_or s x 0) (div-add-mod' i w)))

-- the places of a list of records
pub place_at {ℓ} : {A : Type ℓ} (w : ℕ) (bytes : A → List ℕ) (none : A) (most : ℕ) (l : List A) (j k : ℕ) → j < most → k < w
    → get_or (table (most * w) 0 (place_byte w bytes none l)) (j * w + k) 0 ≡ get_or (bytes (get_or l j none)) k 0
place_at w bytes none most l = cell_read w most (λ i. bytes (get_or l i none))

module _ {ℓ} {A : Type ℓ} (w : ℕ) (pos : 0 < w) (bytes : A → List ℕ) (none : A) (most : ℕ) (blank : bytes none ≡ replicate w 0) (n : ℕ) (bs : List ℕ) where
  -- a place past the last record
  no_record_lem : (l : List A) → length l ≡ n → (j k : ℕ) → n ≤ j → k < w → get_or (bytes (get_or l j none)) k 0 ≡ 0
  no_record_lem l e j k h t = rw (get_or-eq_default l none {n = j} (omega arith), blank) (get_or-replicate w k 0 0 t)

  -- n places that hold what the bytes say there, and zeros after them
  pub places_again : (read : ℕ → A) → length bs ≡ most * w → ((j k : ℕ) → j < n → k < w → get_or (bytes (read j)) k 0 ≡ get_or bs (j * w + k) 0)
      → ((i : ℕ) → n * w ≤ i → i < most * w → get_or bs i 0 ≡ 0) → bs ≡ table (most * w) 0 (place_byte w bytes none (table n 0 read))
  places_again read size used rest = by_cells w most pos bs (λ j. bytes (get_or (table n 0 read) j none)) size (λ j k h t. go j k h t (below j n))
    where
      go : (j k : ℕ) → j < most → k < w → {b : Bool} → Below j n b → get_or bs (j * w + k) 0 ≡ get_or (bytes (get_or (table n 0 read) j none)) k 0
      go j k h t (under l) = rw (get_or_table0 n read j none l) (sym (used j k l t))
      go j k h t (over l) = let m : n * w ≤ j * w = mul-le-mul_right w l in
          rest (j * w + k) (omega arith) (digits_lt h t) ∙ sym (no_record_lem (table n 0 read) (length-table n 0 read) j k l t)

  -- the bytes past n records are zeros
  pub places_rest : (l : List A) → length l ≡ n → bs ≡ table (most * w) 0 (place_byte w bytes none l) → (i : ℕ) → n * w ≤ i → i < most * w → get_or bs i 0 ≡ 0
  places_rest l e is i h t = let k : i % w < w = mod-lt i pos in
      ap (λ x. get_or bs x 0) (sym (div-add-mod' i w)) ∙ ap (λ x. get_or x (i / w * w + i % w) 0) is
      ∙ place_at w bytes none most l (i / w) (i % w) ((div-lt_iff_lt-mul pos).1 t) k ∙ no_record_lem l e (i / w) (i % w) ((le-div_iff_mul-le pos).1 h) k
