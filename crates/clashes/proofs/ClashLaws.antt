-- What the code finds of an entry is what the rules say of its clashing pairs. Assumes nothing.
use mathlib.Core.Path.{◌≡◌, refl, sym, ◌∙◌, ap, ap₂, fun_ext}
use mathlib.Core.Logic.{◌≢◌}
use mathlib.Core.Bool.{Bool, true, false, not, ◌&&◌, ◌||◌, or-false, or_comm}
use mathlib.Core.List.{List}
use Prim.Native.Nat.{ℕ, suc, ◌+◌, ◌-◌, ◌≤◌, ◌<◌}
use native.Mathlib.Decide.{dec_lt}
use native.Mathlib.Omega.{arith}
use lib.Dec.{ltb, eqb}
use lib.ListN.{length, get_or, take, drop}
use Rattle.std.proofs.lemmas.List.{length-take-le, length-drop}
use borrow.Author.Tests.{eqb-true, eq-eqb, ne_eqb, eqb-false, not-true, lt-ltb, ltb-true, leb-true, leb-false}
use Rattle.rules.specs.Base.{any_below, lowest_or_zero, any, rising}
use Rattle.rules.specs.Sets.{Set}
use Rattle.rules.specs.Window.{PermitRecord, Window, permit_key}
use Rattle.rules.specs.Locks.{clash, contains, permitted, blocking}
use Rattle.rules.proofs.BaseLaws.{both_ways, and_both, and_left, and_right, any_intro, any_elim, all_below_intro, all_below_at, Below, under, over, below, Same, same, other, same?, eqb_same}
use Rattle.rules.proofs.ListLaws.{any_at, any_place}
use Rattle.layout.specs.Codec.{no_permit, lock_section}
use Rattle.layout.proofs.CodecLaws.{each_mode}
use Rattle.rules.proofs.BoundLaws.{any_or, all_ext}
use Rattle.rules.proofs.PairLaws.{nobody_blocks, others_permit, pair_permitted, entry_permitted}
use Rattle.locks.specs.Held.{Modes, in_mode, holding}
use Rattle.locks.proofs.RowLaws.{row_holders}
use Rattle.beside.specs.Permits.{any_of}
use Rattle.beside.specs.Beside.{contains_held, beside, holder, other_holder, stands_beside, writer_blocker, entry_fits}
use Rattle.beside.proofs.PlaceLaws.{any_same}
use Rattle.clashes.specs.LocksAndPermits.{LocksAndPermits}
use Rattle.few_permits.specs.Rows.{permit_row}
use Rattle.clashes.specs.Permits.{permit_from, from_entry, FirstOf}
use Rattle.clashes.specs.Contested.{contested}
use Rattle.clashes.proofs.PlaceLaws.{part_permit, entries_rise}
use Rattle.clashes.proofs.ContestedLaws.{contested_none}

-- THE PERMITS OF AN ENTRY
-- a permit from g to t or to anybody that contains a mode
unfoldable grants : ℕ → ℕ → ℕ → PermitRecord → Bool
grants g t m p = eqb p.giver g && ((eqb p.taker t || eqb p.taker 0) && contains p.ops m)

and_mid : (a b e c : Bool) → e && (a && (b && c)) ≡ a && b && e && c
and_mid true true true c = refl
and_mid true true false c = refl
and_mid true false true c = refl
and_mid true false false c = refl
and_mid false b true c = refl
and_mid false b false c = refl

-- before the place where a search for e begins stand those of lower entries: so before the place that it finds
lower-before : (t : ℕ → PermitRecord) (count e next at : ℕ) → ((j : ℕ) → j < next → (t j).entry < e) → FirstOf (from_entry e) t count next at → (j : ℕ) → j < at → (t j).entry < e
unfolding from_entry
lower-before t count e next at lower first j h = go (dec_lt j next)
  where
    go : Dec (j < next) → (t j).entry < e
    go (yes l) = lower j l
    go (no l) = leb-false e (t j).entry (first.skipped j (omega arith) h)

-- so before the first of e, and before the first past e
module _ (t : ℕ → PermitRecord) (count e next from to : ℕ) (lower : (j : ℕ) → j < next → (t j).entry < e)
    (first : FirstOf (from_entry e) t count next from) (last : FirstOf (from_entry (e + 1)) t count from to) where
  lower-first : (j : ℕ) → j < from → (t j).entry < e
  lower-first = lower-before t count e next from lower first

  pub lower_last : (j : ℕ) → j < to → (t j).entry < e + 1
  lower_last = lower-before t count (e + 1) from to (λ j l. omega (arith, lower-first j l)) last

  -- in order, those of e are the ones between
  module _ (order : (i j : ℕ) → i ≤ j → j < count → (t i).entry ≤ (t j).entry) where
    own : (j : ℕ) → from ≤ j → j < to → (t j).entry ≡ e
    unfolding from_entry
    own j h l = omega (arith, lower_last j l, leb-true e (t from).entry (first.found (omega (arith, last.to))), order from j h (omega (arith, last.to)))

    owned : (j : ℕ) → j < count → (t j).entry ≡ e → (from ≤ j) × (j < to)
    unfolding from_entry
    owned j h q = (go (dec_lt j from), at (dec_lt j to))
      where
        go : Dec (j < from) → from ≤ j
        go (yes l) = absurd (omega (arith, lower-first j l))
        go (no l) = omega arith

        at : Dec (j < to) → j < to
        at (yes l) = l
        at (no l) = absurd (omega (arith, leb-true (e + 1) (t to).entry (last.found (omega arith)), order to j (omega arith) h))

-- a test of those of e, on the section's records
module _ (ps : List PermitRecord) (t : ℕ → PermitRecord) (is : (j : ℕ) → j < length ps → t j ≡ get_or ps j no_permit) (order : rising permit_key ps ≡ true) (e next from to : ℕ)
    (lower : (j : ℕ) → j < next → (t j).entry < e)
    (first : FirstOf (from_entry e) t (length ps) next from) (last : FirstOf (from_entry (e + 1)) t (length ps) from to) where
  rise : (i j : ℕ) → i ≤ j → j < length ps → (t i).entry ≤ (t j).entry
  rise i j h l = rw (is i (omega arith), is j l) (entries_rise ps order i j h l)

  own_any : (q : PermitRecord → Bool) → any_of (to - from) (permit_from t from) q ≡ any (λ p. eqb p.entry e && q p) ps
  unfolding any_of permit_from
  own_any q = both_ways _ _
      (λ f. let (j, h, g) = any_elim (to - from) _ f in here (from + j) (omega arith) (omega (arith, last.to)) g)
      (λ f. let (j, h, g) = any_place (λ p. eqb p.entry e && q p) no_permit ps f in there j h (rw (← is j h) at g))
    where
      here : (j : ℕ) → from ≤ j → j < to → q (t j) ≡ true → any (λ p. eqb p.entry e && q p) ps ≡ true
      here j h l g = any_at (λ p. eqb p.entry e && q p) no_permit ps j (omega (arith, last.to)) (rw (← is j (omega (arith, last.to))) (and_both (eqb (t j).entry e) (q (t j)) (rw (own t (length ps) e next from to lower first last rise j h l) (eqb_same e)) g))

      there : (j : ℕ) → j < length ps → eqb (t j).entry e && q (t j) ≡ true → any_below (to - from) (λ j. q (t (from + j))) ≡ true
      there j h g =
          let (l, m) = owned t (length ps) e next from to lower first last rise j h (eqb-true _ _ (and_left (eqb (t j).entry e) _ g)) in
          let k : from + (j - from) ≡ j = omega arith in
          any_intro (to - from) (λ j. q (t (from + j))) (j - from) (omega arith) (rw k (and_right (eqb (t j).entry e) _ g))

  -- they are the permits that the rules look at
  own_permitted : (g u m : ℕ) → any_of (to - from) (permit_from t from) (grants g u m) ≡ permitted ps g u e m
  unfolding grants permitted
  own_permitted g u m = own_any (grants g u m) ∙ ap (λ f. any f ps) (fun_ext (λ p. and_mid (eqb p.giver g) (eqb p.taker u || eqb p.taker 0) (eqb p.entry e) (contains p.ops m)))

-- permits that say the same
entry_same : (n : ℕ) (t t' : ℕ → PermitRecord) (r x : Set) → ((j : ℕ) → j < n → t j ≡ t' j) → entry_fits n t r x ≡ entry_fits n t' r x
unfolding entry_fits writer_blocker stands_beside
entry_same n t t' r x h = all_ext _ _ 256 (λ a ha. ap (λ s. not (x a) || eqb (lowest_or_zero 256 (blocking (holder r x) s a)) 0) (fun_ext (λ b. any_same n t t' (beside r x a b) (beside r x a b) (λ j l. ap (beside r x a b) (h j l)))))

-- what the code finds of an entry: r' and x' are its readers and writers in code
pub entry_found : (n : ℕ) (t : ℕ → PermitRecord) {r x r' x' : Set} {found : Bool} → ((k : ℕ) → r' k ≡ r k) → ((k : ℕ) → x' k ≡ x k) → found ≡ entry_fits n t r' x' → found ≡ entry_fits n t r x
entry_found n t hr hx e = e ∙ ap₂ (entry_fits n t) (fun_ext hr) (fun_ext hx)

-- CLASHING PAIRS
-- nobody is in the way of a writer where permits let every other holder stand beside it, and back where change 0 holds nothing
module _ (n : ℕ) (t : ℕ → PermitRecord) (r x : Set) (a : ℕ) where
  others_fit : ((b : ℕ) → b < 256 → other_holder r x a b ≡ true → stands_beside n t r x a b ≡ true) → eqb (writer_blocker n t r x a) 0 ≡ true
  unfolding writer_blocker other_holder
  others_fit f = eq-eqb _ 0 (nobody_blocks 256 (holder r x) (stands_beside n t r x a) a (λ b h o q. f b h (rw (ne_eqb b a o) q)))

  fit_others : holder r x 0 ≡ false → eqb (writer_blocker n t r x a) 0 ≡ true → (b : ℕ) → b < 256 → other_holder r x a b ≡ true → stands_beside n t r x a b ≡ true
  unfolding writer_blocker other_holder
  fit_others z f b h o = others_permit 256 (holder r x) (stands_beside n t r x a) a z (eqb-true _ 0 f) b h (eqb-false b a (not-true (eqb b a) (and_left (not (eqb b a)) _ o))) (and_right (not (eqb b a)) _ o)

-- two modes that clash: one is write, and the other is held
pair_cases : (m k : ℕ) (u v : Bool) → (m ≡ 2 → 0 < k → u || v ≡ true) → (k ≡ 2 → 0 < m → u || v ≡ true) → not (clash m k) || u || v ≡ true
unfolding clash
pair_cases m k u v f g = go (below 0 m) (below 0 k) (same? m 2) (same? k 2)
  where
    go : {p q r s : Bool} → Below 0 m p → Below 0 k q → Same m 2 r → Same k 2 s → not (p && q && (r || s)) || u || v ≡ true
    go (over h) y r s = refl
    go (under h) (over l) r s = refl
    go (under h) (under l) (same e) s = f e l
    go (under h) (under l) (other n) (same e) = g e h
    go (under h) (under l) (other n) (other o) = refl

clash_write : (k : ℕ) → 0 < k → clash 2 k ≡ true
unfolding clash
clash_write k h = rw (lt-ltb 0 k h)

-- operations contain a mode that is held
contains-mode : (o m : ℕ) → 0 < m → m ≤ 2 → contains_held o (eqb m 1) (eqb m 2) ≡ contains o m
unfolding contains_held
contains-mode o m h l = each_mode (λ (x : ℕ). 0 < x → contains_held o (eqb x 1) (eqb x 2) ≡ contains o x) (λ z. absurd (omega arith)) (λ z. or-false (contains o 1)) (λ z. refl) m l h

clear : (x n u v : Bool) → x ≡ false → n ≡ false → x || n || u || v ≡ true → u || v ≡ true
clear x n u v p q e = rw (p, q) at e

unless : (o f : Bool) → o ≡ true → not o || f ≡ true → f ≡ true
unless o f p e = rw p at e

unless_not : (o f : Bool) → (o ≡ true → f ≡ true) → not o || f ≡ true
unless_not true f h = h refl
unless_not false f h = refl

module _ (W : Window) (modes : Modes W.held) (given : W.given < 256) (none_above : (e c : ℕ) → W.given < c → W.held e c ≡ 0) (nobody : (e : ℕ) → W.held e 0 ≡ 0) (e : ℕ) where
  abbrev row : ℕ → ℕ
  row = W.held e

  row_most : (c : ℕ) → row c ≤ 2
  unfolding Modes
  row_most c = modes e c

  -- between a writer and another holder
  abbrev Between : ℕ → ℕ → Bool
  Between a b = permitted W.permits a b e (row b) || permitted W.permits b a e 2

  mode-set : (m c : ℕ) → c < 256 → in_mode m row c ≡ eqb (row c) m
  unfolding in_mode
  mode-set m c h = rw (lt-ltb c 256 h)

  holds : (c : ℕ) → c < 256 → holder (in_mode 1 row) (in_mode 2 row) c ≡ ltb 0 (row c)
  unfolding holding holder
  holds c h = row_holders row row_most c ∙ rw (lt-ltb c 256 h)

  no_holder : holder (in_mode 1 row) (in_mode 2 row) 0 ≡ false
  no_holder = holds 0 (omega arith) ∙ rw (nobody e)

  other_holder_lem : (a b : ℕ) → b < 256 → b ≢ a → 0 < row b → other_holder (in_mode 1 row) (in_mode 2 row) a b ≡ true
  unfolding other_holder
  other_holder_lem a b hb n h = rw (ne_eqb b a n, holds b hb, lt-ltb 0 (row b) h)

  -- an entry whose writers have permits with all other holders
  pairs_permitted : ((a b : ℕ) → a < 256 → b < 256 → in_mode 2 row a ≡ true → other_holder (in_mode 1 row) (in_mode 2 row) a b ≡ true → 0 < row b → Between a b ≡ true) → entry_permitted W e ≡ true
  unfolding entry_permitted pair_permitted
  pairs_permitted f = all_below_intro (suc W.given) _ (λ a ha. all_below_intro (suc W.given) _ (λ b hb. go a b (omega arith) (omega arith) (same? a b)))
    where
      found : (a b : ℕ) → a < 256 → b < 256 → a ≢ b → row a ≡ 2 → 0 < row b → Between a b ≡ true
      found a b ha hb n m h = f a b ha hb (mode-set 2 a ha ∙ rw m) (other_holder_lem a b hb (λ q. n (sym q)) h) h

      go : (a b : ℕ) → a < 256 → b < 256 → {x : Bool} → Same a b x → x || not (clash (row a) (row b)) || permitted W.permits a b e (row b) || permitted W.permits b a e (row a) ≡ true
      go a b ha hb (same q) = refl
      go a b ha hb (other n) = pair_cases (row a) (row b) (permitted W.permits a b e (row b)) (permitted W.permits b a e (row a))
          (λ m h. rw m (found a b ha hb n m h)) (λ m h. rw m (or_comm (permitted W.permits a b e 2) (permitted W.permits b a e (row a)) ∙ found b a hb ha (λ q. n (sym q)) m h))

  -- nothing is asked where no writer has another holder beside it
  quiet_permitted : contested (in_mode 1 row) (in_mode 2 row) ≡ false → entry_permitted W e ≡ true
  quiet_permitted q = pairs_permitted (λ a b ha hb xa o h. absurd (contested_none (in_mode 1 row) (in_mode 2 row) q a b ha hb xa o))

  -- with the permits of the entry at hand
  module _ (n : ℕ) (t : ℕ → PermitRecord) (own : (g u m : ℕ) → any_of n t (grants g u m) ≡ permitted W.permits g u e m) where
    beside-between : (a b : ℕ) → b < 256 → 0 < row b → any_of n t (beside (in_mode 1 row) (in_mode 2 row) a b) ≡ Between a b
    unfolding any_of beside grants
    beside-between a b hb h =
        any_same n t t (beside (in_mode 1 row) (in_mode 2 row) a b) (λ p. grants a b (row b) p || grants b a 2 p) (λ j l. rw (mode-set 1 b hb, mode-set 2 b hb, contains-mode (t j).ops (row b) h (row_most b)))
        ∙ any_or n (λ j. grants a b (row b) (t j)) (λ j. grants b a 2 (t j)) ∙ ap₂ ◌||◌ (own a b (row b)) (own b a 2)

    below_given : (c : ℕ) → 0 < row c → c < suc W.given
    below_given c h = go (dec_lt W.given c)
      where
        go : Dec (W.given < c) → c < suc W.given
        go (yes l) = absurd (omega (arith, none_above e c l))
        go (no l) = omega arith

    between : entry_permitted W e ≡ true → (a b : ℕ) → b ≢ a → row a ≡ 2 → 0 < row b → Between a b ≡ true
    unfolding entry_permitted pair_permitted
    between f a b n ra hb = rw ra at (clear (eqb a b) (not (clash (row a) (row b))) (permitted W.permits a b e (row b)) (permitted W.permits b a e (row a))
        (ne_eqb a b (λ q. n (sym q))) (rw (ra, clash_write (row b) hb))
        (all_below_at (suc W.given) _ (all_below_at (suc W.given) _ f a (below_given a (omega arith))) b (below_given b hb)))

    found-beside : entry_permitted W e ≡ true → (a b : ℕ) → a < 256 → b < 256 → in_mode 2 row a ≡ true → other_holder (in_mode 1 row) (in_mode 2 row) a b ≡ true
        → any_of n t (beside (in_mode 1 row) (in_mode 2 row) a b) ≡ true
    unfolding other_holder
    found-beside f a b ha hb xa o =
        let h : 0 < row b = ltb-true 0 (row b) (sym (holds b hb) ∙ and_right (not (eqb b a)) _ o) in
        beside-between a b hb h ∙ between f a b (eqb-false b a (not-true (eqb b a) (and_left (not (eqb b a)) _ o))) (eqb-true (row a) 2 (sym (mode-set 2 a ha) ∙ xa)) h

    entry-permitted : entry_fits n t (in_mode 1 row) (in_mode 2 row) ≡ entry_permitted W e
    unfolding entry_fits stands_beside
    entry-permitted = both_ways _ _
        (λ f. pairs_permitted (λ a b ha hb xa o h. sym (beside-between a b hb h) ∙ fit_others n t (in_mode 1 row) (in_mode 2 row) a no_holder (unless _ _ xa (all_below_at 256 _ f a ha)) b hb o))
        (λ f. all_below_intro 256 _ (λ a ha. unless_not (in_mode 2 row a) _ (λ xa. others_fit n t (in_mode 1 row) (in_mode 2 row) a (λ b hb. found-beside f a b ha hb xa))))

-- A TURN OF THE WALK OVER THE ENTRIES
module _ (locks permits : List ℕ) (entries count : ℕ) (W : Window) (h : LocksAndPermits locks permits entries count W) (e : ℕ) (r : Bool) where
  -- an entry that is passed over
  pub turn_quiet : ((held : ℕ → ℕ → ℕ) → locks ≡ lock_section held → r ≡ contested (in_mode 1 (held e)) (in_mode 2 (held e))) → r ≡ false → entry_permitted W e ≡ true
  turn_quiet found q = quiet_permitted W h.modes h.given h.none_above h.nobody e (sym (found W.held h.lock_bytes) ∙ q)

  -- an entry that is looked at, with its permits: a part of the rows
  pub turn_found : (rows : List (List ℕ)) → length rows ≡ count → ((j : ℕ) → j < length W.permits → permit_row rows j ≡ get_or W.permits j no_permit) → (next from to : ℕ) → ((j : ℕ) → j < next → (permit_row rows j).entry < e)
      → FirstOf (from_entry e) (permit_row rows) (length rows) next from → FirstOf (from_entry (e + 1)) (permit_row rows) (length rows) from to
      → ((held : ℕ → ℕ → ℕ) → locks ≡ lock_section held → r ≡ entry_fits (length (take (to - from) (drop from rows))) (permit_row (take (to - from) (drop from rows))) (in_mode 1 (held e)) (in_mode 2 (held e))) → r ≡ entry_permitted W e
  turn_found rows len is next from to lower first last found =
      let all : length rows ≡ length W.permits = len ∙ sym h.permit_count in
      let long : length (take (to - from) (drop from rows)) ≡ to - from = length-take-le (to - from) (drop from rows) (omega (arith, length-drop from rows, last.to)) in
      rw long at (found W.held h.lock_bytes)
      ∙ entry_same (to - from) _ (permit_from (permit_row rows) from) _ _ (λ j l. part_permit rows from (to - from) j l)
      ∙ entry-permitted W h.modes h.given h.none_above h.nobody e (to - from) (permit_from (permit_row rows) from)
      (own_permitted W.permits (permit_row rows) is h.in_order e next from to lower (rw all at first) (rw all at last))
