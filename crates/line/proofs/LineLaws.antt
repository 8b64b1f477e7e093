-- The line's section by its places: a record found, one entered, some taken out. Assumes nothing.
use mathlib.Core.Path.{◌≡◌, refl, sym, ap, ◌∙◌, fun_ext}
use mathlib.Core.Logic.{◌≢◌}
use mathlib.Core.Bool.{Bool, true, false, not, cond}
use mathlib.Core.List.{List, [], ◌∷◌, ◌++◌}
use Prim.Native.Nat.{ℕ, ◌+◌, ◌-◌, ◌*◌, ◌/◌, ◌≤◌, ◌<◌}
use native.Mathlib.Omega.{arith}
use lib.Dec.{eqb}
use borrow.Author.Tests.{eqb-true, eqb-false}
use lib.ListN.{length, get_or, set, take, replicate, length-set, get_or-append, get_or-eq_default}
use lib.Seq.{get_or_at, get_or-set_same, get_or-set_other}
use Rattle.std.specs.Prelude.{Option, Some, None, position}
use Rattle.std.specs.Option.{unwrap_or}
use Rattle.std.specs.List.{position_or_len}
use Rattle.std.specs.Simd.{first_chunks}
use Rattle.std.proofs.lemmas.List.Sums.{fails_before_first, passes_at_first}
use Rattle.rules.specs.Base.{table, distinct}
use Rattle.rules.specs.Sets.{Set, only}
use Rattle.rules.specs.Window.{LineRecord}
use Rattle.rules.specs.Line.{waits_elsewhere, first_in_line, enter_line, stays_in_line, line_left}
use Rattle.rules.proofs.BaseLaws.{Below, under, over, below}
use Rattle.rules.proofs.ListLaws.{length-append-one}
use Rattle.layout.specs.Codec.{no_waiter, waiter_bytes, line_byte, line_section}
use Rattle.layout.specs.Records.{Tabled, waiter_at}
use Rattle.layout.proofs.ReadLaws.{waiter_read}
use Rattle.layout.proofs.RecordLaws.{placed, line_flat, first_byte}
use Rattle.cells.specs.Part.{patch}
use Rattle.places.proofs.PlaceLaws.{place_store}
use Rattle.places.proofs.RowLaws.{rows-count, row_byte}
use Rattle.rows.specs.Rows.{row_key, row_bytes, Closed}
use Rattle.rows.proofs.CloseLaws.{closed-few}
use Rattle.rows.proofs.TableLaws.{TableOf, flat_rows, table-closed}
use Rattle.line.specs.Line.{waiter_row, row_stays, Found}
use Rattle.line.proofs.FoundLaws.{first_at, first_none, elsewhere_none, elsewhere_at, enter_at, enter_end}

-- FOUND IN THE SECTION
-- the first of the first n records whose byte k is x
module _ (s : List ℕ) (n : ℕ) (records : List (List ℕ)) (room : 4 * n ≤ length s) (cut : records ≡ first_chunks 4 (length (take (n * 4) s) / 4) (take (n * 4) s)) (k x : ℕ) (few : k < 4) where
  abbrev test : List ℕ → Bool
  test r = eqb (get_or r k 0) x

  -- a record's test is its byte's
  tested : (j : ℕ) → j < n → test (get_or records j []) ≡ eqb (get_or s (j * 4 + k) 0) x
  tested j h = ap (λ (v : ℕ). eqb v x) (row_byte n s records room cut j k (j * 4 + k) [] (rw (rows-count n s records room cut) h) few refl)

  found_at : (at : ℕ) → at ≤ n → ((j : ℕ) → j < at → test (get_or records j []) ≡ false) → (at < n → test (get_or records at []) ≡ true) → Found s n k x at
  found_at at most fails passes = record {
    before = λ j h. eqb-false _ x (sym (tested j (omega arith)) ∙ fails j h);
    here = λ h. eqb-true _ x (sym (tested at h) ∙ passes h);
  }

  pub position_found : (r : Option ℕ) → r ≡ position test records → Found s n k x (unwrap_or r n)
  position_found r e = rw (e, rows-count n s records room cut) (go (below (position_or_len test records) n))
    where
      go : {b : Bool} → Below (position_or_len test records) n b → Found s n k x (unwrap_or (cond b (Some (position_or_len test records)) None) n)
      go (under h) = found_at (position_or_len test records) (omega arith) (λ j t. fails_before_first test records j [] t)
          (λ t. passes_at_first test records [] (rw (rows-count n s records room cut) h))
      go (over h) = found_at n (omega arith) (λ j t. fails_before_first test records j [] (omega arith)) (λ t. absurd (omega arith))

module _ (s : List ℕ) (l : List LineRecord) (e : s ≡ line_section l) where
  pub change_read : (i : ℕ) → i < 256 → get_or s (i * 4) 0 ≡ (get_or l i no_waiter).change
  unfolding waiter_at
  change_read i h = ap (λ (t : List ℕ). get_or t (i * 4) 0) e ∙ ap (λ (r : LineRecord). r.change) (waiter_read l i h)

  pub entry_read : (i : ℕ) → i < 256 → get_or s (i * 4 + 1) 0 ≡ (get_or l i no_waiter).entry
  unfolding waiter_at
  entry_read i h = ap (λ (t : List ℕ). get_or t (i * 4 + 1) 0) e ∙ ap (λ (r : LineRecord). r.entry) (waiter_read l i h)

  module _ (n : ℕ) (q : length l ≡ n) (few : n ≤ 255) (x at : ℕ) (most : at ≤ n) where
    -- the byte of a place is that of its record
    by_change : (i : ℕ) → i < 256 → get_or s (i * 4 + 0) 0 ≡ (get_or l i no_waiter).change
    by_change i h = sym (first_byte (λ j. get_or s j 0) (i * 4)) ∙ change_read i h

    -- the first of an entry
    pub first_found : Found s n 1 x at → at < n → get_or s (at * 4) 0 ≡ first_in_line l x
    first_found f h = change_read at (omega arith) ∙ sym (first_at x l at (omega arith) (λ j t. rw (← entry_read j (omega arith)) (f.before j t)) (sym (entry_read at (omega arith)) ∙ f.here h))

    -- nobody stands in its line
    pub first_missed : Found s n 1 x at → n ≤ at → 0 ≡ first_in_line l x
    first_missed f h = sym (first_none x l (λ j t. rw (← entry_read j (omega arith)) (f.before j (omega arith))))

    -- those of other changes before it
    changes-before : Found s n 0 x at → (j : ℕ) → j < at → (get_or l j no_waiter).change ≢ x
    changes-before f j t = rw (← by_change j (omega arith)) (f.before j t)

    change-here : Found s n 0 x at → at < n → (get_or l at no_waiter).change ≡ x
    change-here f h = sym (by_change at (omega arith)) ∙ f.here h

    -- a change that stands in a line
    pub elsewhere_found : Found s n 0 x at → at < n → (e : ℕ) → distinct (λ r. r.change) l ≡ true → not (eqb (get_or s (at * 4 + 1) 0) e) ≡ waits_elsewhere l x e
    elsewhere_found f h e d = rw (entry_read at (omega arith)) (sym (elsewhere_at x e l at (omega arith) d (change-here f h)))

    -- one that stands in none
    pub elsewhere_missed : Found s n 0 x at → n ≤ at → (e : ℕ) → false ≡ waits_elsewhere l x e
    elsewhere_missed f h e = sym (elsewhere_none x e l (λ j t. changes-before f j (omega arith)))

-- ENTERED: in its place, or at the end
-- the bytes of place i, and the section by its places
abbrev place_bytes : List LineRecord → ℕ → List ℕ
place_bytes l i = waiter_bytes (get_or l i no_waiter)

line_places : (l : List LineRecord) → line_section l ≡ table 1024 0 (placed 4 (place_bytes l))
unfolding line_section line_byte placed
line_places l = refl

length_waiter : (r : LineRecord) → length (waiter_bytes r) ≡ 4
unfolding waiter_bytes
length_waiter r = refl

-- a record stored over another
place_again : (l : List LineRecord) (i : ℕ) (r : LineRecord) → i < length l → i < 256 → patch (line_section l) (i * 4) (waiter_bytes r) ≡ line_section (set l i r)
place_again l i r t h = ap (λ (t : List ℕ). patch t (i * 4) (waiter_bytes r)) (line_places l)
    ∙ place_store 4 256 (omega arith) (place_bytes l) (place_bytes (set l i r)) i (waiter_bytes r) h (length_waiter r)
    (record { here = ap waiter_bytes (get_or-set_same l i r no_waiter t); there = λ j ne. ap waiter_bytes (get_or-set_other l i j r no_waiter ne) })
    ∙ sym (line_places (set l i r))

-- the other places, where one is appended
append_there : (l : List LineRecord) (r : LineRecord) (j : ℕ) → j ≢ length l → get_or (l ++ (r ∷ [])) j no_waiter ≡ get_or l j no_waiter
append_there l r j ne = go (below j (length l))
  where
    go : {b : Bool} → Below j (length l) b → get_or (l ++ (r ∷ [])) j no_waiter ≡ get_or l j no_waiter
    go (under h) = get_or-append l (r ∷ []) no_waiter j h
    go (over h) = get_or-eq_default (l ++ (r ∷ [])) no_waiter {n = j} (omega (arith, length-append-one l r)) ∙ sym (get_or-eq_default l no_waiter h)

append_store : (l : List LineRecord) (n : ℕ) (r : LineRecord) → length l ≡ n → n < 256 → patch (line_section l) (n * 4) (waiter_bytes r) ≡ line_section (l ++ (r ∷ []))
append_store l n r q h = ap (λ (t : List ℕ). patch t (n * 4) (waiter_bytes r)) (line_places l)
    ∙ place_store 4 256 (omega arith) (place_bytes l) (place_bytes (l ++ (r ∷ []))) n (waiter_bytes r) h (length_waiter r)
    (record { here = ap waiter_bytes (get_or_at l r [] no_waiter n q); there = λ j ne. ap waiter_bytes (append_there l r j (λ d. ne (d ∙ q))) })
    ∙ sym (line_places (l ++ (r ∷ [])))

module _ (s : List ℕ) (l : List LineRecord) (e : s ≡ line_section l) (n : ℕ) (q : length l ≡ n) (few : n ≤ 255) (x : LineRecord) (at : ℕ) (most : at ≤ n) (f : Found s n 0 x.change at)
    (out : List ℕ) (o : out ≡ patch s (at * 4) (waiter_bytes x)) where
  -- the change stands in a line
  pub enter_old : at < n → Tabled line_section (enter_line x l) n out
  enter_old h =
      let is : enter_line x l ≡ set l at x = enter_at x l at (omega arith) (changes-before s l e n q few x.change at most f) (change-here s l e n q few x.change at most f h) in
      rw is (record { count = sym (length-set l at x ∙ q); bytes = o ∙ ap (λ (t : List ℕ). patch t (at * 4) (waiter_bytes x)) e ∙ place_again l at x (omega arith) (omega arith) })

  -- it does not
  pub enter_new : n ≤ at → Tabled line_section (enter_line x l) (n + 1) out
  enter_new h =
      let here : at ≡ n = omega arith in
      let is : enter_line x l ≡ l ++ (x ∷ []) = enter_end x l (λ j t. changes-before s l e n q few x.change at most f j (omega arith)) in
      rw is (record { count = omega (arith, length-append-one l x); bytes = o ∙ ap (λ (k : ℕ). patch s (k * 4) (waiter_bytes x)) here ∙ ap (λ (t : List ℕ). patch t (n * 4) (waiter_bytes x)) e ∙ append_store l n x q (omega arith) })

-- TAKEN OUT: the line is a table of rows
line-table : TableOf waiter_row (λ r. row_key (waiter_row r)) line_section 256
unfolding waiter_row waiter_bytes row_bytes row_key
line-table = record {
  flat = λ l h. line_flat l h ∙ ap (λ (y : List ℕ). y ++ replicate ((256 - length l) * 4) 0) (flat_rows waiter_row waiter_bytes (λ t. refl) l);
  keyed = λ t. refl;
}

pub line_left_lem : (s : Set) (n : ℕ) (bytes : List ℕ) → n ≤ 255 → (r : ℕ) (after : List ℕ) → Closed (row_stays s) n bytes r after
    → (r ≤ n) × ((l : List LineRecord) → length l ≡ n → bytes ≡ line_section l → Tabled line_section (line_left s l) r after)
unfolding line_left stays_in_line row_stays waiter_row
line_left_lem s n bytes few r after c = (
  closed-few (row_stays s) n bytes r after c,
  λ l len is. table-closed waiter_row (λ r. row_key (waiter_row r)) line_section 256 line-table l n bytes len is (omega arith) (row_stays s) (stays_in_line s) (λ x. refl) r after c,
)

-- of one change alone
pub only_left : (s : Set) (c : ℕ) → ((k : ℕ) → s k ≡ eqb k c) → (l : List LineRecord) (r : ℕ) (after : List ℕ) → Tabled line_section (line_left s l) r after → Tabled line_section (line_left (only c) l) r after
unfolding only
only_left s c e l r after t = rw (fun_ext e) at t
