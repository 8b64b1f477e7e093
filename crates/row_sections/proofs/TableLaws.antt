-- The permits and the ties: sound records in rising order, and zeros. Assumes nothing.
use mathlib.Core.Path.{◌≡◌, refl, sym, ◌∙◌, ap}
use mathlib.Core.Logic.{◌↔◌, ⊎_elim, ◌≢◌}
use mathlib.Core.Bool.{Bool, true, ◌&&◌}
use mathlib.Core.List.{List}
use Prim.Native.Nat.{ℕ, zero, suc, ◌+◌, ◌-◌, ◌*◌, ◌≤◌, ◌<◌}
use native.Mathlib.Nat.{mul_comm}
use native.Mathlib.Omega.{arith}
use lib.Dec.{eqb}
use lib.ListN.{get_or, length, replicate}
use borrow.Author.Tests.{ltb-true, lt-ltb, eqb-true}
use Rattle.rules.specs.Base.{Key, all, rising, table}
use Rattle.rules.specs.Sets.{Set}
use Rattle.rules.specs.Window.{PermitRecord, TieRecord, permit_key, tie_key}
use Rattle.rules.specs.Sound.{permit_sound, tie_sound}
use Rattle.rules.proofs.BaseLaws.{and_both, and_left, and_right, or_cases, or_right, all_below_at, all_below_intro}
use Rattle.rules.proofs.ListLaws.{all_at, all-table}
use Rattle.rules.proofs.SortLaws.{rising_at, rising-table}
use Rattle.layout.specs.Codec.{no_permit, no_tie, permit_bytes, tie_bytes, permit_byte, tie_byte, permit_section, tie_section}
use Rattle.layout.specs.Records.{tie_at, permit_at}
use Rattle.layout.proofs.RecordLaws.{placed, place_byte, place_at, places_again, places_rest, first_byte, tie_again, permit_again}
use Rattle.layout.proofs.SectionLaws.{Bytes, length-table}
use Rattle.cells.proofs.ZeroLaws.{zeros_at, zeros_all, Tested}
use Rattle.rows.specs.Rows.{row_key, rank, row_at}
use Rattle.rows.proofs.OrderLaws.{small_at, rank-before, before-rank}
use Rattle.row_sections.specs.Fits.{is_in_order, permit_fits, tie_fits}
use Rattle.row_sections.specs.Sections.{PermitsSound, TiesSound}

-- a row above the one before it, by ranks
in_order_at : (bs : List ℕ) (j : ℕ) → is_in_order bs (suc j) ≡ true → rank (row_at bs j) < rank (row_at bs (suc j))
unfolding is_in_order
in_order_at bs j h = let e : suc j - 1 ≡ j = omega arith in
    ⊎_elim (λ q. absurd (let z = eqb-true (suc j) 0 q in omega arith)) (λ q. rw e at (ltb-true (rank (row_at bs (suc j - 1))) (rank (row_at bs (suc j))) q)) (or_cases (eqb (suc j) 0) _ h)

order_at : (bs : List ℕ) (j : ℕ) → (j ≢ 0 → rank (row_at bs (j - 1)) < rank (row_at bs j)) → is_in_order bs j ≡ true
unfolding is_in_order
order_at bs zero h = refl
order_at bs (suc j) h = or_right (eqb (suc j) 0) _ (lt-ltb (rank (row_at bs (suc j - 1))) (rank (row_at bs (suc j))) (h (λ e. omega arith)))

-- the first three bytes of a place are its row's key
key_place : (bs : List ℕ) (j : ℕ) → record { k1 = get_or bs (j * 4) 0; k2 = get_or bs (j * 4 + 1) 0; k3 = get_or bs (j * 4 + 2) 0 } ≡ row_key (row_at bs j)
unfolding row_key row_at
key_place bs j = ap (λ (at : ℕ). record { k1 = get_or bs at 0; k2 = get_or bs (at + 1) 0; k3 = get_or bs (at + 2) 0 }) (mul_comm j 4)

-- records of four bytes: how one is read, and its key
record Rows (A : Type 0) : Type 1 where
  pub bytes : A → List ℕ
  pub none : A
  pub key : A → Key
  pub read : List ℕ → ℕ → A
  pub blank : bytes none ≡ replicate 4 0
  pub keyed : (bs : List ℕ) (j : ℕ) → key (read bs j) ≡ row_key (row_at bs j)
  pub again : (bs : List ℕ) (x : A) (j : ℕ) → ((k : ℕ) → k < 4 → get_or bs (j * 4 + k) 0 ≡ get_or (bytes x) k 0) → read bs j ≡ x

module _ {A : Type 0} (R : Rows A) (p : A → Bool) (most : ℕ) (bs : List ℕ) (b : Bytes bs) (size : length bs ≡ most * 4) (n : ℕ) (fits : n ≤ most) where
  abbrev section : List A → List ℕ
  section l = table (most * 4) 0 (place_byte 4 R.bytes R.none l)

  -- what is asked of the bytes of place j
  record Turn (j : ℕ) : Type 0 where
    pub fine : p (R.read bs j) ≡ true
    pub whole : (k : ℕ) → k < 4 → get_or (R.bytes (R.read bs j)) k 0 ≡ get_or bs (j * 4 + k) 0
    pub order : is_in_order bs j ≡ true

  -- the records that stand, in order, and zeros
  record Stands : Type 0 where
    pub rows : List A
    pub count : length rows ≡ n
    pub is : bs ≡ section rows
    pub fine : all p rows ≡ true
    pub order : rising R.key rows ≡ true

  stands : ((j : ℕ) → j < n → Turn j) → ((i : ℕ) → n * 4 ≤ i → i < most * 4 → get_or bs i 0 ≡ 0) → Stands
  stands t z = record {
    rows = table n 0 (R.read bs);
    count = length-table n 0 (R.read bs);
    is = places_again 4 (omega arith) R.bytes R.none most R.blank n bs (R.read bs) size (λ j k h l. (t j h).whole k l) z;
    fine = all-table p (R.read bs) n 0 (λ j l. (t j (omega arith)).fine);
    order = rising-table R.key (R.read bs) n 0
        (λ j l. rw (R.keyed bs j, R.keyed bs (suc j)) (before-rank (row_at bs j) (row_at bs (suc j)) (small_at bs b j) (small_at bs b (suc j)) (in_order_at bs j (t (suc j) (omega arith)).order)));
  }

  module _ (s : Stands) where
    byte_at_lem : (j k : ℕ) → j < most → k < 4 → get_or bs (j * 4 + k) 0 ≡ get_or (R.bytes (get_or s.rows j R.none)) k 0
    byte_at_lem j k h l = ap (λ x. get_or x (j * 4 + k) 0) s.is ∙ place_at 4 R.bytes R.none most s.rows j k h l

    read_at : (j : ℕ) → j < most → R.read bs j ≡ get_or s.rows j R.none
    read_at j h = R.again bs (get_or s.rows j R.none) j (λ k l. byte_at_lem j k h l)

    key_at : (j : ℕ) → j < most → row_key (row_at bs j) ≡ R.key (get_or s.rows j R.none)
    key_at j h = sym (R.keyed bs j) ∙ ap R.key (read_at j h)

    rank_less : (j : ℕ) → suc j < n → rank (row_at bs j) < rank (row_at bs (suc j))
    rank_less j h = rank-before (row_at bs j) (row_at bs (suc j)) (small_at bs b j) (small_at bs b (suc j))
        (rw (key_at j (omega arith), key_at (suc j) (omega arith)) (rising_at R.key R.none s.rows s.order j (suc j) (omega arith) (rw s.count h)))

    turn : (j : ℕ) → j < n → Turn j
    turn j h = record {
      fine = rw (read_at j (omega arith)) (all_at p R.none s.rows s.fine j (rw s.count h));
      whole = λ k l. ap (λ x. get_or (R.bytes x) k 0) (read_at j (omega arith)) ∙ sym (byte_at_lem j k (omega arith) l);
      order = order_at bs j (λ e. let q : suc (j - 1) ≡ j = omega arith in rw q at (rank_less (j - 1) (omega arith)));
    }

    rest : (i : ℕ) → n * 4 ≤ i → i < most * 4 → get_or bs i 0 ≡ 0
    rest = places_rest 4 (omega arith) R.bytes R.none most R.blank n bs s.rows s.count s.is

  -- where the test of a place asks just that, both tests say that they stand
  module _ (q : ℕ → Bool) (asks : (j : ℕ) → q j ≡ true → Turn j) (met : (j : ℕ) → Turn j → q j ≡ true) where
    tested : Tested n q bs (n * 4) (most * 4) ↔ Stands
    tested = (
      λ t. stands (λ j h. asks j (all_below_at n q t.fine j h)) (zeros_at bs (n * 4) (most * 4) t.rest),
      λ s. record { fine = all_below_intro n q (λ j h. met j (turn s j h)); rest = zeros_all bs (n * 4) (most * 4) (rest s) },
    )

-- PERMITS
permit_rows : Rows PermitRecord
unfolding permit_bytes permit_key permit_at
permit_rows = record {
  bytes = permit_bytes;
  none = no_permit;
  key = permit_key;
  read = permit_at;
  blank = refl;
  keyed = key_place;
  again = λ bs. permit_again (λ i. get_or bs i 0);
}

module _ (bs : List ℕ) (b : Bytes bs) (size : length bs ≡ 4096) (n entries : ℕ) (lives : Set) (fits : n ≤ 1024) where
  permit_turn : (j : ℕ) → permit_fits bs entries lives j ≡ true → Turn permit_rows (permit_sound entries lives) 1024 bs b size n fits j
  unfolding permit_fits permit_rows
  permit_turn j h = record {
    fine = and_left (permit_sound entries lives (permit_at bs j)) _ h;
    whole = λ k l. go k l;
    order = and_right (permit_sound entries lives (permit_at bs j)) _ h;
  }
    where
      go : (k : ℕ) → k < 4 → get_or (permit_bytes (permit_at bs j)) k 0 ≡ get_or bs (j * 4 + k) 0
      go zero l = unfold permit_bytes permit_at in first_byte (λ i. get_or bs i 0) (j * 4)
      go (suc zero) l = unfold permit_bytes permit_at in refl
      go (suc (suc zero)) l = unfold permit_bytes permit_at in refl
      go (suc (suc (suc zero))) l = unfold permit_bytes permit_at in refl
      go (suc (suc (suc (suc k)))) l = absurd (omega arith)

  pub permits-sound : Tested n (permit_fits bs entries lives) bs (n * 4) 4096 ↔ PermitsSound bs n entries lives
  unfolding permit_section permit_byte placed permit_rows permit_fits
  permits-sound =
      let d = tested permit_rows (permit_sound entries lives) 1024 bs b size n fits (permit_fits bs entries lives) permit_turn (λ j t. and_both (permit_sound entries lives (permit_at bs j)) _ t.fine t.order) in (
        λ t. let s = d.0 t in record { permits = s.rows; size = s.count; bytes = s.is; fine = s.fine; order = s.order },
        λ s. d.1 (record { rows = s.permits; count = s.size; is = s.bytes; fine = s.fine; order = s.order }),
      )

-- TIES
tie_rows : Rows TieRecord
unfolding tie_bytes tie_key tie_at
tie_rows = record {
  bytes = tie_bytes;
  none = no_tie;
  key = tie_key;
  read = tie_at;
  blank = refl;
  keyed = key_place;
  again = λ bs. tie_again (λ i. get_or bs i 0);
}

module _ (bs : List ℕ) (b : Bytes bs) (size : length bs ≡ 2048) (n : ℕ) (lives : Set) (fits : n ≤ 512) where
  tie_turn : (j : ℕ) → tie_fits bs lives j ≡ true → Turn tie_rows (tie_sound lives) 512 bs b size n fits j
  unfolding tie_fits tie_rows
  tie_turn j h = record {
    fine = and_left (tie_sound lives (tie_at bs j)) _ (and_left (tie_sound lives (tie_at bs j) && eqb (get_or bs (j * 4 + 3) 0) 0) _ h);
    whole = λ k l. go k l;
    order = and_right (tie_sound lives (tie_at bs j) && eqb (get_or bs (j * 4 + 3) 0) 0) _ h;
  }
    where
      go : (k : ℕ) → k < 4 → get_or (tie_bytes (tie_at bs j)) k 0 ≡ get_or bs (j * 4 + k) 0
      go zero l = unfold tie_bytes tie_at in first_byte (λ i. get_or bs i 0) (j * 4)
      go (suc zero) l = unfold tie_bytes tie_at in refl
      go (suc (suc zero)) l = unfold tie_bytes tie_at in refl
      go (suc (suc (suc zero))) l = unfold tie_bytes in sym (eqb-true _ 0 (and_right (tie_sound lives (tie_at bs j)) _ (and_left (tie_sound lives (tie_at bs j) && eqb (get_or bs (j * 4 + 3) 0) 0) _ h)))
      go (suc (suc (suc (suc k)))) l = absurd (omega arith)

  pub ties-sound : Tested n (tie_fits bs lives) bs (n * 4) 2048 ↔ TiesSound bs n lives
  unfolding tie_section tie_byte placed tie_rows tie_fits tie_bytes
  ties-sound =
      let d = tested tie_rows (tie_sound lives) 512 bs b size n fits (tie_fits bs lives) tie_turn
      (λ j t. and_both (tie_sound lives (tie_at bs j) && eqb (get_or bs (j * 4 + 3) 0) 0) _ (and_both (tie_sound lives (tie_at bs j)) _ t.fine (rw (← t.whole 3 (omega arith)))) t.order) in (
        λ t. let s = d.0 t in record { ties = s.rows; size = s.count; bytes = s.is; fine = s.fine; order = s.order },
        λ s. d.1 (record { rows = s.ties; count = s.size; is = s.bytes; fine = s.fine; order = s.order }),
      )
