-- The line: who runs, each once, and zeros. Assumes nothing.
use mathlib.Core.Path.{◌≡◌, refl, sym, ◌∙◌, ap}
use mathlib.Core.Logic.{◌↔◌, ◌≢◌}
use mathlib.Core.Bool.{Bool, true, false, not, ◌||◌, or_comm}
use mathlib.Core.List.{List}
use Prim.Native.Nat.{ℕ, zero, suc, ◌+◌, ◌*◌, ◌≤◌, ◌<◌}
use native.Mathlib.Numerals.{add-one}
use native.Mathlib.Omega.{arith}
use lib.Dec.{eqb}
use lib.ListN.{get_or, length, replicate}
use borrow.Author.Tests.{eqb-true, eqb-false, not-true, not-false}
use Rattle.rules.specs.Base.{all_below, any_below, table}
use Rattle.rules.specs.Window.{LineRecord}
use Rattle.rules.specs.Sound.{waiter_sound}
use Rattle.rules.proofs.BaseLaws.{and_both, and_left, and_right, all_below_at, all_below_intro, any_below_none, none_below}
use Rattle.rules.proofs.ListLaws.{all_at, all-table}
use Rattle.rules.proofs.LineLaws.{waiter_on, distinct_places, distinct_apart}
use Rattle.rules.proofs.TurnLaws.{none_yet, turn_failed, turn_passed}
use Rattle.layout.specs.Codec.{no_waiter, waiter_bytes, line_byte, line_section, change_section}
use Rattle.layout.specs.Records.{waiter_at}
use Rattle.layout.proofs.ReadLaws.{waiter_read}
use Rattle.layout.proofs.RecordLaws.{placed, place_at, places_again, places_rest, first_byte}
use Rattle.layout.proofs.SectionLaws.{Bytes, length-table, get_or_table0}
use Rattle.cells.proofs.ZeroLaws.{zeros_at, zeros_all, Tested}
use Rattle.words.specs.Members.{words_have}
use Rattle.places.proofs.TableLaws.{status_read}
use Rattle.line_section.specs.Fits.{run_in, waiter_fits, stands_at, is_new, place_fits}
use Rattle.line_section.specs.Sections.{run_by, LineSound}

-- THE WALK: j places fit, and their changes were seen
module _ (bs : List ℕ) (entries : ℕ) (changes : List ℕ) where
  pub record Seen (j : ℕ) (seen : List ℕ) : Type 0 where
    pub passed : all_below j (place_fits bs entries changes) ≡ true
    pub members : (k : ℕ) → words_have seen k ≡ any_below j (stands_at bs k)

  pub none_seen : (seen : List ℕ) → ((k : ℕ) → words_have seen k ≡ false) → Seen 0 seen
  unfolding any_below
  none_seen seen e = record { passed = none_yet _; members = e }

  module _ (j : ℕ) (seen : List ℕ) (s : Seen j seen) (r : Bool) (e : r ≡ waiter_fits bs entries changes j) where
    -- who stands there does not fit
    pub place-fails : (n : ℕ) → j < n → not r ≡ true → false ≡ all_below n (place_fits bs entries changes)
    unfolding place_fits
    place-fails n h t = turn_failed n (place_fits bs entries changes) j false h (sym (rw (sym e ∙ not-true r t))) refl

    module _ (new : Bool) (f : new ≡ not (words_have seen (get_or bs (j * 4) 0))) (t : not r ≡ false) where
      -- the place fits where its change is new
      fits : place_fits bs entries changes j ≡ new
      unfolding place_fits is_new
      fits = rw (sym e ∙ not-false r t, ← s.members (get_or bs (j * 4) 0)) (sym f)

      pub place_again : (n : ℕ) → j < n → not new ≡ true → false ≡ all_below n (place_fits bs entries changes)
      place_again n h u = turn_failed n (place_fits bs entries changes) j new h (sym fits) u

      pub place-seen : not new ≡ false → (out : List ℕ) → ((k : ℕ) → words_have out k ≡ eqb k (get_or bs (j * 4) 0) || words_have seen k) → Seen (j + 1) out
      unfolding any_below stands_at
      place-seen u out g = record {
        passed = turn_passed j (place_fits bs entries changes) new s.passed (sym fits) u;
        members = λ k. rw add-one (g k ∙ rw (s.members k) (or_comm (eqb k (get_or bs (j * 4) 0)) (any_below j (stands_at bs k))));
      }

-- BOTH TESTS say that the line is sound
blank : waiter_bytes no_waiter ≡ replicate 4 0
unfolding waiter_bytes
blank = refl

module _ (bs : List ℕ) (b : Bytes bs) (size : length bs ≡ 1024) (n entries : ℕ) (most : n ≤ 255) (changes : List ℕ) (st pa : ℕ → ℕ) (is : changes ≡ change_section st pa) where
  -- who runs by the bytes runs by the statuses
  runs : (c : ℕ) → c < 256 → run_in changes c ≡ run_by st c
  unfolding run_in run_by
  runs c h = ap (λ (x : ℕ). eqb x 2) (status_read changes st pa c is h)

  -- a place that fits
  module _ (j : ℕ) (h : place_fits bs entries changes j ≡ true) where
    fit : waiter_fits bs entries changes j ≡ true
    unfolding place_fits
    fit = and_left (waiter_fits bs entries changes j) (is_new bs j) h

    last : get_or bs (j * 4 + 3) 0 ≡ 0
    unfolding waiter_fits
    last = eqb-true _ 0 (and_right (waiter_sound entries (run_in changes) (waiter_at bs j)) (eqb (get_or bs (j * 4 + 3) 0) 0) fit)

    fine : waiter_sound entries (run_by st) (waiter_at bs j) ≡ true
    unfolding waiter_fits waiter_at
    fine = waiter_on entries (run_in changes) (run_by st) (waiter_at bs j) (λ e. sym (runs _ (b (j * 4))) ∙ e) (and_left (waiter_sound entries (run_in changes) (waiter_at bs j)) (eqb (get_or bs (j * 4 + 3) 0) 0) fit)

    apart : (i : ℕ) → i < j → get_or bs (j * 4) 0 ≢ get_or bs (i * 4) 0
    unfolding place_fits is_new stands_at
    apart i l = eqb-false _ _ (any_below_none j (stands_at bs (get_or bs (j * 4) 0)) (not-true _ (and_right (waiter_fits bs entries changes j) (is_new bs j) h)) i l)

    whole : (k : ℕ) → k < 4 → get_or (waiter_bytes (waiter_at bs j)) k 0 ≡ get_or bs (j * 4 + k) 0
    unfolding waiter_bytes waiter_at
    whole zero l = first_byte (λ i. get_or bs i 0) (j * 4)
    whole (suc zero) l = refl
    whole (suc (suc zero)) l = refl
    whole (suc (suc (suc zero))) l = sym last
    whole (suc (suc (suc (suc k)))) l = absurd (omega arith)

  line_of : Tested n (place_fits bs entries changes) bs (n * 4) 1024 → LineSound bs n entries (run_by st)
  unfolding line_section line_byte placed
  line_of t = record {
    line = table n 0 (waiter_at bs);
    size = length-table n 0 (waiter_at bs);
    bytes = places_again 4 (omega arith) waiter_bytes no_waiter 256 blank n bs (waiter_at bs) size (λ j k h l. whole j (fits j h) k l) (zeros_at bs (n * 4) 1024 t.rest);
    fine = all-table (waiter_sound entries (run_by st)) (waiter_at bs) n 0 (λ j l. fine j (fits j (omega arith)));
    once = distinct_places (λ r. r.change) no_waiter (table n 0 (waiter_at bs)) (λ i j h l. let m : j < n = rw length-table at l in rw (change i (omega arith), change j m) (apart j (fits j m) i h));
  }
    where
      fits : (j : ℕ) → j < n → place_fits bs entries changes j ≡ true
      fits j h = all_below_at n (place_fits bs entries changes) t.fine j h

      change : (j : ℕ) → j < n → (get_or (table n 0 (waiter_at bs)) j no_waiter).change ≡ get_or bs (j * 4) 0
      change j h = ap (λ (r : LineRecord). r.change) (get_or_table0 n (waiter_at bs) j no_waiter h) ∙ unfold waiter_at in refl

  module _ (s : LineSound bs n entries (run_by st)) where
    byte_at_lem : (j k : ℕ) → j < 256 → k < 4 → get_or bs (j * 4 + k) 0 ≡ get_or (waiter_bytes (get_or s.line j no_waiter)) k 0
    unfolding line_section line_byte placed
    byte_at_lem j k h l = ap (λ x. get_or x (j * 4 + k) 0) s.bytes ∙ place_at 4 waiter_bytes no_waiter 256 s.line j k h l

    read_at : (j : ℕ) → j < 256 → waiter_at bs j ≡ get_or s.line j no_waiter
    read_at j h = ap (λ x. waiter_at x j) s.bytes ∙ waiter_read s.line j h

    change_at : (j : ℕ) → j < 256 → get_or bs (j * 4) 0 ≡ (get_or s.line j no_waiter).change
    unfolding waiter_at
    change_at j h = ap (λ (r : LineRecord). r.change) (read_at j h)

    fits_of : (j : ℕ) → j < n → place_fits bs entries changes j ≡ true
    unfolding place_fits waiter_fits is_new stands_at waiter_bytes waiter_at
    fits_of j h = and_both (waiter_fits bs entries changes j) (is_new bs j)
        (and_both (waiter_sound entries (run_in changes) (waiter_at bs j)) _
        (waiter_on entries (run_by st) (run_in changes) (waiter_at bs j) (λ e. runs _ (b (j * 4)) ∙ e) (rw (read_at j (omega arith)) (all_at (waiter_sound entries (run_by st)) no_waiter s.line s.fine j (rw s.size h))))
        (rw (byte_at_lem j 3 (omega arith) (omega arith))))
        (ap not (none_below j (stands_at bs (get_or bs (j * 4) 0)) (λ i l e. distinct_apart (λ r. r.change) no_waiter s.line s.once i j l (rw s.size h) (sym (change_at j (omega arith)) ∙ eqb-true _ _ e ∙ change_at i (omega arith)))))

    rest_of : (i : ℕ) → n * 4 ≤ i → i < 1024 → get_or bs i 0 ≡ 0
    unfolding line_section line_byte placed
    rest_of = places_rest 4 (omega arith) waiter_bytes no_waiter 256 blank n bs s.line s.size s.bytes

  pub line-sound : Tested n (place_fits bs entries changes) bs (n * 4) 1024 ↔ LineSound bs n entries (run_by st)
  line-sound = (line_of, λ s. record { fine = all_below_intro n (place_fits bs entries changes) (fits_of s); rest = zeros_all bs (n * 4) 1024 (rest_of s) })
