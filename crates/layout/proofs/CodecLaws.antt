-- What is encoded is decoded again. Assumes nothing.
use mathlib.Core.Path.{◌≡◌, refl, sym, ◌∙◌, ap, fun_ext}
use mathlib.Core.Bool.{Bool, true, false, cond, ◌&&◌}
use Prim.Native.Nat.{ℕ, zero, suc, ◌+◌, ◌*◌, ◌/◌, ◌%◌, ◌^◌, ◌≤◌, ◌<◌}
use native.Mathlib.Nat.{pow-succ', mul-div_cancel, mul-mod_left, zero-lt-suc, zero-div, div-div-eq-div-mul, not-suc-le-zero, le_of_suc-le-suc}
use native.Mathlib.Omega.{arith}
use lib.Arith.{digits_div, digits_mod}
use lib.Dec.{eqb}
use lib.ListN.{get_or, length}
use Rattle.rules.specs.Base.{table}
use Rattle.rules.specs.Window.{limits, Window}
use Rattle.rules.proofs.BaseLaws.{Below, under, over, below}
use Rattle.rules.proofs.SoundParts.{Blank}
use Rattle.layout.specs.Codec.{byte, bit, pack, no_record, no_permit, no_tie, no_waiter, figures, head_byte, value_byte, change_byte, lock_byte, permit_byte, tie_byte, line_byte, record_bytes, log_byte, permit_bytes, tie_bytes, waiter_bytes, head_size, values_size, changes_size, line_size, locks_size, permits_size, ties_size, log_size, head_at, values_at, changes_at, line_at, locks_at, permits_at, ties_at, log_at, window_size, encode, inside, join2, join4, unpack, read_figure, read_value, read_status, read_parent, read_held, read_record, read_permit, read_tie, read_waiter, decode}
use Rattle.layout.proofs.SectionLaws.{section, sections, encode_sections, length_lay_out, lay_out_at, table_list}
use Rattle.layout.proofs.RecordLaws.{first_byte, permit_again, tie_again, waiter_again}

-- the size of a window; the bytes of its sections, read
module _ (W : Window) where
  pub length-encode : length (encode W) ≡ window_size
  unfolding sections section
  length-encode = rw (encode_sections W) (length_lay_out (sections (figures W) W))

  head_at_lem : (i : ℕ) → i < head_size → inside head_at (encode W) i ≡ head_byte (figures W) i
  unfolding inside sections section
  head_at_lem i h = rw (encode_sections W) (lay_out_at (sections (figures W) W) 0 i h)

  values_at_lem : (i : ℕ) → i < values_size → inside values_at (encode W) i ≡ value_byte W.value i
  unfolding inside sections section
  values_at_lem i h = rw (encode_sections W) (lay_out_at (sections (figures W) W) 1 i h)

  changes_at_lem : (i : ℕ) → i < changes_size → inside changes_at (encode W) i ≡ change_byte W.status W.parent i
  unfolding inside sections section
  changes_at_lem i h = rw (encode_sections W) (lay_out_at (sections (figures W) W) 2 i h)

  line_at_lem : (i : ℕ) → i < line_size → inside line_at (encode W) i ≡ line_byte W.line i
  unfolding inside sections section
  line_at_lem i h = rw (encode_sections W) (lay_out_at (sections (figures W) W) 3 i h)

  locks_at_lem : (i : ℕ) → i < locks_size → inside locks_at (encode W) i ≡ lock_byte W.held i
  unfolding inside sections section
  locks_at_lem i h = rw (encode_sections W) (lay_out_at (sections (figures W) W) 4 i h)

  permits_at_lem : (i : ℕ) → i < permits_size → inside permits_at (encode W) i ≡ permit_byte W.permits i
  unfolding inside sections section
  permits_at_lem i h = rw (encode_sections W) (lay_out_at (sections (figures W) W) 5 i h)

  ties_at_lem : (i : ℕ) → i < ties_size → inside ties_at (encode W) i ≡ tie_byte W.ties i
  unfolding inside sections section
  ties_at_lem i h = rw (encode_sections W) (lay_out_at (sections (figures W) W) 6 i h)

  log_at_lem : (i : ℕ) → i < log_size → inside log_at (encode W) i ≡ log_byte W.log i
  unfolding inside sections section
  log_at_lem i h = rw (encode_sections W) (lay_out_at (sections (figures W) W) 7 i h)

-- numbers of two and of four bytes
join2-byte : (v : ℕ) → v < 65536 → join2 (byte 0 v) (byte 1 v) ≡ v
unfolding join2 byte
join2-byte v h = omega arith

-- the bytes of 0
pub byte_zero : (k : ℕ) → byte k 0 ≡ 0
unfolding byte
byte_zero k = rw (zero-div (256 ^ k))

-- three divisions by 256, one after the other
chain : (v q1 q2 q3 r0 r1 r2 r3 : ℕ) → q1 * 256 + r0 ≡ v → q2 * 256 + r1 ≡ q1 → q3 * 256 + r2 ≡ q2 → r3 ≡ q3
    → r0 + r1 * 256 + r2 * 65536 + r3 * 16777216 ≡ v
chain v q1 q2 q3 r0 r1 r2 r3 a b c d = omega arith

join4-byte : (v : ℕ) → v < 4294967296 → join4 (λ k. byte k v) ≡ v
unfolding join4 byte
join4-byte v h =
    let a : v / 65536 ≡ v / 256 / 256 = sym (div-div-eq-div-mul v 256 256) in
    let b : v / 16777216 ≡ v / 65536 / 256 = sym (div-div-eq-div-mul v 65536 256) in
    chain v (v / 256) (v / 65536) (v / 16777216) (v / 1 % 256) (v / 256 % 256) (v / 65536 % 256) (v / 16777216 % 256)
    (omega arith) (omega arith) (omega arith) (omega arith)

pub join4_same : (f g : ℕ → ℕ) → ((k : ℕ) → k < 4 → f k ≡ g k) → join4 f ≡ join4 g
unfolding join4
join4_same f g h = rw (h 0 (omega arith), h 1 (omega arith), h 2 (omega arith), h 3 (omega arith))

bit_most : (b : Bool) → bit b < 2
bit_most true = omega arith
bit_most false = omega arith

-- n tests packed in a number of n bits
pub pack_most : (n : ℕ) (p : ℕ → Bool) → pack n p < 2 ^ n
unfolding pack
pack_most zero p = omega arith
pack_most (suc n) p = omega (arith, bit_most (p 0), pack_most n (λ j. p (suc j)))

-- the same tests, the same number
pub pack_same : (n : ℕ) (p q : ℕ → Bool) → ((j : ℕ) → j < n → p j ≡ q j) → pack n p ≡ pack n q
unfolding pack
pack_same zero p q h = refl
pack_same (suc n) p q h = rw (h 0 (omega arith), pack_same n (λ j. p (suc j)) (λ j. q (suc j)) (λ j l. h (suc j) (omega arith)))

-- no test holds
pub pack_none : (n : ℕ) (p : ℕ → Bool) → ((j : ℕ) → j < n → p j ≡ false) → pack n p ≡ 0
unfolding pack
pack_none zero p h = refl
pack_none (suc n) p h = rw (h 0 (omega arith), pack_none n (λ j. p (suc j)) (λ j l. h (suc j) (omega arith)))

eqb_bit : (x : ℕ) (b : Bool) → x ≡ bit b → eqb x 1 ≡ b
eqb_bit x true e = rw e
eqb_bit x false e = rw e

-- what is said of none, read and write is said of each mode
pub each_mode : (P : ℕ → Type 0) → P 0 → P 1 → P 2 → (x : ℕ) → x ≤ 2 → P x
each_mode P a b c zero h = a
each_mode P a b c (suc zero) h = b
each_mode P a b c (suc (suc zero)) h = c
each_mode P a b c (suc (suc (suc x))) h = absurd (omega arith)

pub unpack-pack : (n : ℕ) (p : ℕ → Bool) (i : ℕ) → i < n → unpack (pack n p) i ≡ p i
unfolding unpack pack
unpack-pack zero p i h = absurd (not-suc-le-zero h)
unpack-pack (suc n) p zero h = eqb_bit ((bit (p 0) + 2 * pack n (λ j. p (suc j))) / 1 % 2) (p 0) (omega (arith, bit_most (p 0)))
unpack-pack (suc n) p (suc i) h =
    let q : (bit (p 0) + 2 * pack n (λ j. p (suc j))) / 2 ≡ pack n (λ j. p (suc j)) = omega (arith, bit_most (p 0)) in
    rw (pow-succ' 2 i, ← (div-div-eq-div-mul (bit (p 0) + 2 * pack n (λ j. p (suc j))) 2 (2 ^ i)), q) (unpack-pack n (λ j. p (suc j)) i (le_of_suc-le-suc h))

-- what bytes can say
pub record Canonical (W : Window) : Type 0 where
  pub entries_most : W.entries ≤ 256
  pub given_most : W.given ≤ 255
  pub blank : Blank limits W
  pub value_most : (e : ℕ) → W.value e < 4294967296
  pub held_most : (e c : ℕ) → W.held e c ≤ 2
  pub log_most : length W.log ≤ 2048
  pub before_most : (j : ℕ) → (get_or W.log j no_record).before < 4294967296
  pub permits_most : length W.permits ≤ 1024
  pub ties_most : length W.ties ≤ 512
  pub line_most : length W.line ≤ 255

module _ (W : Window) where
  figure_again : (k n : ℕ) → k < 6 → get_or (figures W) k 0 ≡ n → n < 65536 → read_figure (encode W) k ≡ n
  unfolding read_figure head_byte
  figure_again k n h e m =
      let one : 1 < 2 = omega arith in
      rw (head_at_lem W (k * 2) (omega arith), head_at_lem W (k * 2 + 1) (omega arith), mul-div_cancel k (zero-lt-suc 1), mul-mod_left k 2, digits_div k one, digits_mod k one, e) (join2-byte n m)

  value_again : ((e : ℕ) → W.value e < 4294967296) → ((e : ℕ) → 256 ≤ e → W.value e ≡ 0) → (e : ℕ) → read_value (encode W) e ≡ W.value e
  unfolding read_value value_byte
  value_again most none e = go (below e 256)
    where
      go : {b : Bool} → Below e 256 b → cond b (join4 (λ j. inside values_at (encode W) (e * 4 + j))) 0 ≡ W.value e
      go (under h) = join4_same (λ j. inside values_at (encode W) (e * 4 + j)) (λ j. byte j (W.value e)) (λ j l. values_at_lem W (e * 4 + j) (omega arith) ∙ rw (digits_div e l, digits_mod e l)) ∙ join4-byte (W.value e) (most e)
      go (over h) = sym (none e h)

  status_again : ((c : ℕ) → 256 ≤ c → W.status c ≡ 0) → (c : ℕ) → read_status (encode W) c ≡ W.status c
  unfolding read_status change_byte
  status_again none c = go (below c 256)
    where
      go : {b : Bool} → Below c 256 b → cond b (inside changes_at (encode W) (c * 4)) 0 ≡ W.status c
      go (under h) = changes_at_lem W (c * 4) (omega arith) ∙ rw (mul-mod_left c 4, mul-div_cancel c (zero-lt-suc 3))
      go (over h) = sym (none c h)

  parent_again : ((c : ℕ) → 256 ≤ c → W.parent c ≡ 0) → (c : ℕ) → read_parent (encode W) c ≡ W.parent c
  unfolding read_parent change_byte
  parent_again none c = go (below c 256)
    where
      go : {b : Bool} → Below c 256 b → cond b (inside changes_at (encode W) (c * 4 + 1)) 0 ≡ W.parent c
      go (under h) = let one : 1 < 4 = omega arith in changes_at_lem W (c * 4 + 1) (omega arith) ∙ rw (digits_div c one, digits_mod c one)
      go (over h) = sym (none c h)

  -- a change's bit among an entry's readers (m is 0) or writers (m is 1)
  bit_at : (e c m : ℕ) → e < 256 → c < 256 → m < 2 → unpack (inside locks_at (encode W) (e * 64 + m * 32 + c / 8)) (c % 8) ≡ eqb (W.held e c) (suc m)
  unfolding lock_byte
  bit_at e c m he hc hm =
      let a : (e * 64 + m * 32 + c / 8) / 64 ≡ e = omega arith in
      let b : (e * 64 + m * 32 + c / 8) % 64 / 32 ≡ m = omega arith in
      let d : (e * 64 + m * 32 + c / 8) % 32 ≡ c / 8 = omega arith in
      let z : c / 8 * 8 + c % 8 ≡ c = omega arith in
      ap (λ x. unpack x (c % 8)) (locks_at_lem W (e * 64 + m * 32 + c / 8) (omega arith))
      ∙ unpack-pack 8 _ (c % 8) (omega arith) ∙ rw (a, b, d, z)

  held_again : ((e c : ℕ) → W.held e c ≤ 2) → (e c : ℕ) → e < 256 → c < 256 →
      cond (unpack (inside locks_at (encode W) (e * 64 + 32 + c / 8)) (c % 8)) 2 (bit (unpack (inside locks_at (encode W) (e * 64 + c / 8)) (c % 8))) ≡ W.held e c
  held_again most e c he hc =
      let w : unpack (inside locks_at (encode W) (e * 64 + 32 + c / 8)) (c % 8) ≡ eqb (W.held e c) 2 = ap (λ x. unpack (inside locks_at (encode W) x) (c % 8)) (omega arith) ∙ bit_at e c 1 he hc (omega arith) in
      let r : unpack (inside locks_at (encode W) (e * 64 + c / 8)) (c % 8) ≡ eqb (W.held e c) 1 = ap (λ x. unpack (inside locks_at (encode W) x) (c % 8)) (omega arith) ∙ bit_at e c 0 he hc (omega arith) in
      rw (w, r) (each_mode (λ x. cond (eqb x 2) 2 (bit (eqb x 1)) ≡ x) refl refl refl (W.held e c) (most e c))

  held_all : ((e c : ℕ) → W.held e c ≤ 2) → ((e c : ℕ) → 256 ≤ e → W.held e c ≡ 0) → ((e c : ℕ) → 256 ≤ c → W.held e c ≡ 0) → (e c : ℕ) → read_held (encode W) e c ≡ W.held e c
  unfolding read_held
  held_all most no-entry no_change e c = go (below e 256) (below c 256)
    where
      go : {a b : Bool} → Below e 256 a → Below c 256 b →
          cond (a && b) (cond (unpack (inside locks_at (encode W) (e * 64 + 32 + c / 8)) (c % 8)) 2 (bit (unpack (inside locks_at (encode W) (e * 64 + c / 8)) (c % 8)))) 0 ≡ W.held e c
      go (under h) (under l) = held_again most e c h l
      go (under h) (over l) = sym (no_change e c l)
      go (over h) (under l) = sym (no-entry e c h)
      go (over h) (over l) = sym (no-entry e c h)

  record_at_lem : (j i : ℕ) → j < 2048 → i < 6 → inside log_at (encode W) (j * 6 + i) ≡ get_or (record_bytes (get_or W.log j no_record)) i 0
  unfolding log_byte
  record_at_lem j i h l = log_at_lem W (j * 6 + i) (omega arith) ∙ rw (digits_div j l, digits_mod j l)

  record_there : (j : ℕ) → j < 2048 → (get_or W.log j no_record).before < 4294967296 → read_record (encode W) j ≡ get_or W.log j no_record
  unfolding read_record record_bytes
  record_there j h m = λ i. record {
    owner = (first_byte (inside log_at (encode W)) (j * 6) ∙ record_at_lem j 0 h (omega arith)) i;
    entry = record_at_lem j 1 h (omega arith) i;
    before = (join4_same (λ k. inside log_at (encode W) (j * 6 + (k + 2))) (λ k. byte k (get_or W.log j no_record).before) (λ k l. record_at_lem j (k + 2) h (omega arith) ∙ before-byte k l) ∙ join4-byte (get_or W.log j no_record).before m) i;
  }
    where
      before-byte : (k : ℕ) → k < 4 → get_or (record_bytes (get_or W.log j no_record)) (k + 2) 0 ≡ byte k (get_or W.log j no_record).before
      before-byte zero l = refl
      before-byte (suc zero) l = refl
      before-byte (suc (suc zero)) l = refl
      before-byte (suc (suc (suc zero))) l = refl
      before-byte (suc (suc (suc (suc k)))) l = absurd (omega arith)

  permit_at_lem : (j i : ℕ) → j < 1024 → i < 4 → inside permits_at (encode W) (j * 4 + i) ≡ get_or (permit_bytes (get_or W.permits j no_permit)) i 0
  unfolding permit_byte
  permit_at_lem j i h l = permits_at_lem W (j * 4 + i) (omega arith) ∙ rw (digits_div j l, digits_mod j l)

  permit_there : (j : ℕ) → j < 1024 → read_permit (encode W) j ≡ get_or W.permits j no_permit
  unfolding read_permit
  permit_there j h = permit_again (inside permits_at (encode W)) (get_or W.permits j no_permit) j (λ k l. permit_at_lem j k h l)

  tie_at_lem : (j i : ℕ) → j < 512 → i < 4 → inside ties_at (encode W) (j * 4 + i) ≡ get_or (tie_bytes (get_or W.ties j no_tie)) i 0
  unfolding tie_byte
  tie_at_lem j i h l = ties_at_lem W (j * 4 + i) (omega arith) ∙ rw (digits_div j l, digits_mod j l)

  tie_there : (j : ℕ) → j < 512 → read_tie (encode W) j ≡ get_or W.ties j no_tie
  unfolding read_tie
  tie_there j h = tie_again (inside ties_at (encode W)) (get_or W.ties j no_tie) j (λ k l. tie_at_lem j k h l)

  waiter_at_lem : (j i : ℕ) → j < 256 → i < 4 → inside line_at (encode W) (j * 4 + i) ≡ get_or (waiter_bytes (get_or W.line j no_waiter)) i 0
  unfolding line_byte
  waiter_at_lem j i h l = line_at_lem W (j * 4 + i) (omega arith) ∙ rw (digits_div j l, digits_mod j l)

  waiter_there : (j : ℕ) → j < 256 → read_waiter (encode W) j ≡ get_or W.line j no_waiter
  unfolding read_waiter
  waiter_there j h = waiter_again (inside line_at (encode W)) (get_or W.line j no_waiter) j (λ k l. waiter_at_lem j k h l)

module _ (W : Window) (k : Canonical W) where
  log_again : table (read_figure (encode W) 2) 0 (read_record (encode W)) ≡ W.log
  unfolding figures
  log_again = rw (figure_again W 2 (length W.log) (omega arith) refl (omega (arith, k.log_most)))
      (table_list no_record W.log (read_record (encode W)) refl (λ j l. record_there W j (omega (arith, k.log_most)) (k.before_most j)))

  permits_again : table (read_figure (encode W) 3) 0 (read_permit (encode W)) ≡ W.permits
  unfolding figures
  permits_again = rw (figure_again W 3 (length W.permits) (omega arith) refl (omega (arith, k.permits_most)))
      (table_list no_permit W.permits (read_permit (encode W)) refl (λ j l. permit_there W j (omega (arith, k.permits_most))))

  ties_again : table (read_figure (encode W) 4) 0 (read_tie (encode W)) ≡ W.ties
  unfolding figures
  ties_again = rw (figure_again W 4 (length W.ties) (omega arith) refl (omega (arith, k.ties_most)))
      (table_list no_tie W.ties (read_tie (encode W)) refl (λ j l. tie_there W j (omega (arith, k.ties_most))))

  line_again : table (read_figure (encode W) 5) 0 (read_waiter (encode W)) ≡ W.line
  unfolding figures
  line_again = rw (figure_again W 5 (length W.line) (omega arith) refl (omega (arith, k.line_most)))
      (table_list no_waiter W.line (read_waiter (encode W)) refl (λ j l. waiter_there W j (omega (arith, k.line_most))))

  pub decode-encode : decode (encode W) ≡ W
  unfolding limits decode figures
  decode-encode = λ i. record {
    entries = figure_again W 0 W.entries (omega arith) refl (omega (arith, k.entries_most)) i;
    given = figure_again W 1 W.given (omega arith) refl (omega (arith, k.given_most)) i;
    value = fun_ext (value_again W k.value_most k.blank.value) i;
    status = fun_ext (status_again W k.blank.status) i;
    parent = fun_ext (parent_again W k.blank.parent) i;
    held = fun_ext (λ e. fun_ext (held_all W k.held_most k.blank.held-entry k.blank.held-change e)) i;
    log = log_again i;
    permits = permits_again i;
    ties = ties_again i;
    line = line_again i;
  }
