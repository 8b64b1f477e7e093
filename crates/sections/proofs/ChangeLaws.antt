-- The changes: statuses in their range, lower parents, zeros elsewhere. Assumes nothing.
use mathlib.Core.Path.{◌≡◌, sym, ◌∙◌, ap}
use mathlib.Core.Logic.{◌≢◌}
use mathlib.Core.Bool.{Bool, true, false, not, cond, ◌||◌}
use mathlib.Core.List.{List, [], ◌∷◌}
use Prim.Native.Nat.{ℕ, zero, suc, ◌+◌, ◌-◌, ◌*◌, ◌/◌, ◌%◌, ◌≤◌, ◌<◌}
use native.Mathlib.Nat.{add-zero, div-add-mod'}
use native.Mathlib.Omega.{arith}
use lib.Dec.{ltb, eqb}
use lib.ListN.{get_or, length, get_or-replicate}
use borrow.Author.Tests.{eqb-true, ne_eqb, lt-ltb, le-ltb}
use Rattle.rules.specs.Base.{all_below, outside}
use Rattle.rules.specs.Sound.{status_sound, parent_sound}
use Rattle.rules.proofs.BaseLaws.{and_four, or_right, all_below_at, all_below_intro, Same, same, other, same?, Below, under, over, below}
use Rattle.layout.specs.Codec.{change_section}
use Rattle.layout.proofs.RecordLaws.{by_cells}
use Rattle.cells.specs.Part.{byte_is}
use Rattle.cells.proofs.ZeroLaws.{zeros_at, zeros_all}
use Rattle.places.proofs.TableLaws.{change_places, change_read, status_read}
use Rattle.sections.specs.Fits.{change_fits, next_fits}
use Rattle.sections.specs.Sections.{ChangesSound}

module _ (bs : List ℕ) (size : length bs ≡ 1024) (given : ℕ) (most : given < 256) where
  -- byte k of change c's place; nothing past the last place
  byte_at : ℕ → ℕ → ℕ
  byte_at k c = cond (ltb c 256) (get_or bs (c * 4 + k) 0) 0

  byte_at_lem : (k c : ℕ) → c < 256 → byte_at k c ≡ get_or bs (c * 4 + k) 0
  unfolding byte_at
  byte_at_lem k c h = rw (lt-ltb c 256 h)

  byte_none : (k c : ℕ) → 256 ≤ c → byte_at k c ≡ 0
  unfolding byte_at
  byte_none k c h = rw (le-ltb c 256 h)

  -- the three tests
  pub record Tests : Type 0 where
    pub first : all_below (4 - 0) (byte_is bs 0 0) ≡ true
    pub fits : all_below given (next_fits bs) ≡ true
    pub rest : all_below (1024 - (given * 4 + 4)) (byte_is bs (given * 4 + 4) 0) ≡ true

  -- what they say of a place: that of no change is 0
  data Place (c : ℕ) : Bool → Type 0 where
    used : c ≢ 0 → c ≤ given → change_fits bs c ≡ true → Place c false
    unused : ((k : ℕ) → k < 4 → byte_at k c ≡ 0) → Place c true

  place : Tests → (c : ℕ) → Place c (eqb c 0 || ltb given c)
  unfolding next_fits
  place t c = go (same? c 0) (below given c)
    where
      past : given < c → (k : ℕ) → k < 4 → {b : Bool} → Below c 256 b → byte_at k c ≡ 0
      past h k l (under m) = byte_at_lem k c m ∙ zeros_at bs (given * 4 + 4) 1024 t.rest (c * 4 + k) (omega arith) (omega arith)
      past h k l (over m) = byte_none k c m

      fit : c ≢ 0 → c ≤ given → change_fits bs c ≡ true
      fit n h = let e : c - 1 + 1 ≡ c = omega arith in rw e at (all_below_at given (next_fits bs) t.fits (c - 1) (omega arith))

      go : {p q : Bool} → Same c 0 p → Below given c q → Place c (p || q)
      go (same e) q = unused (λ k l. byte_at_lem k c (omega arith) ∙ zeros_at bs 0 4 t.first (c * 4 + k) (omega arith) (omega arith))
      go (other n) (under h) = unused (λ k l. past h k l (below c 256))
      go (other n) (over h) = used n h (fit n h)

  -- the bytes of a used place
  fits-parts : (c : ℕ) → change_fits bs c ≡ true
      → (not (outside 1 5 (get_or bs (c * 4) 0)) ≡ true) × (ltb (get_or bs (c * 4 + 1) 0) c ≡ true) × (eqb (get_or bs (c * 4 + 2) 0) 0 ≡ true) × (eqb (get_or bs (c * 4 + 3) 0) 0 ≡ true)
  unfolding change_fits
  fits-parts c h = and_four _ _ _ _ h

  reserved : Tests → (c k : ℕ) → c < 256 → 2 ≤ k → k < 4 → get_or bs (c * 4 + k) 0 ≡ 0
  reserved t c k h l m = go (place t c) k l m
    where
      go : {b : Bool} → Place c b → (j : ℕ) → 2 ≤ j → j < 4 → get_or bs (c * 4 + j) 0 ≡ 0
      go (unused f) j p q = sym (byte_at_lem j c h) ∙ f j q
      go (used n u f) zero p q = absurd (omega arith)
      go (used n u f) (suc zero) p q = absurd (omega arith)
      go (used n u f) (suc (suc zero)) p q = eqb-true _ 0 (fits-parts c f).2
      go (used n u f) (suc (suc (suc zero))) p q = eqb-true _ 0 (fits-parts c f).3
      go (used n u f) (suc (suc (suc (suc j)))) p q = absurd (omega arith)

  changes-bytes : Tests → bs ≡ change_section (byte_at 0) (byte_at 1)
  changes-bytes t = by_cells 4 256 (omega arith) bs (λ c. byte_at 0 c ∷ byte_at 1 c ∷ 0 ∷ 0 ∷ []) size go ∙ sym (change_places (byte_at 0) (byte_at 1))
    where
      go : (c k : ℕ) → c < 256 → k < 4 → get_or bs (c * 4 + k) 0 ≡ get_or (byte_at 0 c ∷ byte_at 1 c ∷ 0 ∷ 0 ∷ []) k 0
      go c zero h l = sym (byte_at_lem 0 c h)
      go c (suc zero) h l = sym (byte_at_lem 1 c h)
      go c (suc (suc zero)) h l = reserved t c 2 h (omega arith) l
      go c (suc (suc (suc zero))) h l = reserved t c 3 h (omega arith) l
      go c (suc (suc (suc (suc k)))) h l = absurd (omega arith)

  changes_of : Tests → ChangesSound bs given
  unfolding status_sound parent_sound
  changes_of t = record { status = byte_at 0; parent = byte_at 1; bytes = changes-bytes t; statuses = λ c. status c (place t c); parents = λ c. parent c (place t c) }
    where
      first_at : (c : ℕ) → c ≤ given → byte_at 0 c ≡ get_or bs (c * 4) 0
      first_at c h = byte_at_lem 0 c (omega arith) ∙ ap (λ x. get_or bs x 0) (add-zero (c * 4))

      status : (c : ℕ) {b : Bool} → Place c b → cond b (eqb (byte_at 0 c) 0) (not (outside 1 5 (byte_at 0 c))) ≡ true
      status c (unused f) = rw (f 0 (omega arith))
      status c (used n u f) = rw (first_at c u) (fits-parts c f).0

      parent : (c : ℕ) {b : Bool} → Place c b → cond b (eqb (byte_at 1 c) 0) (ltb (byte_at 1 c) c) ≡ true
      parent c (unused f) = rw (f 1 (omega arith))
      parent c (used n u f) = rw (byte_at_lem 1 c (omega arith)) (fits-parts c f).1

  module _ (s : ChangesSound bs given) where
    zero_of : (c : ℕ) → eqb c 0 || ltb given c ≡ true → (s.status c ≡ 0) × (s.parent c ≡ 0)
    unfolding status_sound parent_sound
    zero_of c h = (eqb-true (s.status c) 0 (rw h at (s.statuses c)), eqb-true (s.parent c) 0 (rw h at (s.parents c)))

    zero_byte : (i : ℕ) → i < 1024 → eqb (i / 4) 0 || ltb given (i / 4) ≡ true → get_or bs i 0 ≡ 0
    zero_byte i h e = ap (λ x. get_or bs x 0) (sym (div-add-mod' i 4)) ∙ change_read bs s.status s.parent (i / 4) s.bytes (omega arith) (i % 4) (omega arith) ∙ rw ((zero_of (i / 4) e).0, (zero_of (i / 4) e).1) (get_or-replicate 4 (i % 4) 0 0 (omega arith))

    fits_of : (c : ℕ) → c < given → next_fits bs c ≡ true
    unfolding next_fits change_fits status_sound parent_sound
    fits_of c h =
        let read = change_read bs s.status s.parent (c + 1) s.bytes (omega arith) in
        let n : eqb (c + 1) 0 || ltb given (c + 1) ≡ false = rw (ne_eqb (c + 1) 0 (omega arith), le-ltb given (c + 1) (omega arith)) in
        let x : not (outside 1 5 (s.status (c + 1))) ≡ true = rw n at (s.statuses (c + 1)) in
        let y : ltb (s.parent (c + 1)) (c + 1) ≡ true = rw n at (s.parents (c + 1)) in
        rw (status_read bs s.status s.parent (c + 1) s.bytes (omega arith), x, read 1 (omega arith), y, read 2 (omega arith), read 3 (omega arith))

    tests_of : Tests
    tests_of = record {
      first = zeros_all bs 0 4 (λ i h t. let q : i / 4 ≡ 0 = omega arith in zero_byte i (omega arith) (rw q));
      fits = all_below_intro given (next_fits bs) fits_of;
      rest = zeros_all bs (given * 4 + 4) 1024 (λ i h t. zero_byte i t (or_right (eqb (i / 4) 0) _ (lt-ltb given (i / 4) (omega arith))));
    }

  pub changes-sound : (Tests → ChangesSound bs given) × (ChangesSound bs given → Tests)
  changes-sound = (changes_of, tests_of)
