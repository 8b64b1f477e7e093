-- What spreads along rows in which ties are noted comes to the closure. Assumes nothing.
use mathlib.Core.Path.{◌≡◌, refl, sym, ap₂, ◌∙◌}
use mathlib.Core.Bool.{Bool, true, false, not, ◌&&◌, ◌||◌, false≢true, and-false}
use mathlib.Core.List.{List, [], ◌∷◌}
use mathlib.Core.Logic.{⊎_elim}
use Prim.Native.Nat.{ℕ, ◌+◌, ◌-◌, ◌*◌, ◌/◌, ◌%◌, ◌≤◌, ◌<◌}
use native.Mathlib.Decide.{dec_lt}
use native.Mathlib.Omega.{arith}
use lib.Dec.{eqb, ltb}
use lib.ListN.{length, get_or, replicate, length-replicate, get_or-replicate, get_or-eq_default}
use borrow.Author.Tests.{eqb-true, ne_eqb, not-true, lt-ltb, le-ltb}
use Rattle.rules.specs.Base.{count_below, lowest_below}
use Rattle.rules.specs.Sets.{Set, closure}
use Rattle.rules.specs.Window.{TieRecord}
use Rattle.rules.specs.Ties.{is_group}
use Rattle.rules.proofs.BaseLaws.{or_left, or_right, or_cases, and_both, and_left, and_right, eqb_same, no_true, count-le, Within, Same, same, other, same?, any_intro, any_elim}
use Rattle.layout.specs.Codec.{unpack, tie_section}
use Rattle.layout.specs.Records.{tie_at}
use Rattle.layout.proofs.SectionLaws.{Bytes}
use Rattle.cells.proofs.Digits.{unpack_zero}
use Rattle.passes.specs.Passes.{follows}
use Rattle.passes.specs.TieRows.{gone_along, gone_at, gone_in, row_has}
use Rattle.passes.proofs.PassLaws.{Inside, Stable, Growing, pulled-follower, pulled-leader, pulled-within}
use Rattle.sets.specs.declared.Along.{Along}
use Rattle.sets.specs.Closure.{relation, low_kind, Spread}
use Rattle.sets.specs.Members.{members}
use Rattle.rules.proofs.BoundLaws.{count-more}
use Rattle.sets.proofs.WalkLaws.{Lowest, lowest_of, rest_without}
use Rattle.sets.proofs.MemberLaws.{four_words}
use Rattle.sets.proofs.Words.{of_words}
use Rattle.sets.proofs.ClosureLaws.{section_closure}

-- ROWS
-- rows of zeros hold nothing
rows_none : (x y : ℕ) → row_has (replicate 1024 0) x y ≡ false
unfolding row_has
rows_none x y = rw (zero_at (x * 4 + y / 64), unpack_zero (y % 64)) (and-false (ltb y 256))
  where
    zero_at : (i : ℕ) → ◌≡◌ {A = ℕ} (get_or (replicate 1024 0) i 0) 0
    zero_at i = go (dec_lt i 1024)
      where
        go : Dec (i < 1024) → ◌≡◌ {A = ℕ} (get_or (replicate 1024 0) i 0) 0
        go (yes h) = get_or-replicate 1024 i 0 0 h
        go (no n) = get_or-eq_default (replicate 1024 0) 0 {n = i} (rw (length-replicate {A = ℕ} 1024 0) (omega arith))

-- a row as a set
pub row-set : (rows : List ℕ) (c k : ℕ) → members (of_words (get_or rows (c * 4) 0 ∷ get_or rows (c * 4 + 1) 0 ∷ get_or rows (c * 4 + 2) 0 ∷ get_or rows (c * 4 + 3) 0 ∷ [])) k ≡ row_has rows c k
unfolding row_has
row-set rows c = four_words (row_has rows c) _ _ _ _ (λ k h. rw (le-ltb k 256 h))
    (word 0 (c * 4) (omega arith) (omega arith)) (word 1 (c * 4 + 1) (omega arith) (omega arith)) (word 2 (c * 4 + 2) (omega arith) (omega arith)) (word 3 (c * 4 + 3) (omega arith) (omega arith))
  where
    word : (i at : ℕ) → i < 4 → at ≡ c * 4 + i → (j : ℕ) → j < 64 → unpack (get_or rows at 0) j ≡ ltb (64 * i + j) 256 && unpack (get_or rows (c * 4 + (64 * i + j) / 64) 0) ((64 * i + j) % 64)
    word i at hi e j h =
        let x : at ≡ c * 4 + (64 * i + j) / 64 = omega arith in
        let y : j ≡ (64 * i + j) % 64 = omega arith in
        rw (lt-ltb (64 * i + j) 256 (omega arith)) (ap₂ (λ (u v : ℕ). unpack (get_or rows u 0) v) x y)

-- SPREADING: s has grown from the seed, `left` are the members whose rows are still to be taken in
pub record Spreading (rows : List ℕ) (seed s left : Set) : Type 0 where
  pub holds : Inside seed s
  pub least : (u : Set) → ((a b : ℕ) → u a ≡ true → row_has rows a b ≡ true → u b ≡ true) → Inside seed u → Inside s u
  pub inside : Inside left s
  pub done : (a b : ℕ) → s a ≡ true → left a ≡ false → row_has rows a b ≡ true → s b ≡ true

pub spreading_start : (rows : List ℕ) (seed : Set) → Spreading rows seed seed seed
spreading_start rows seed = record {
  holds = λ k q. q;
  least = λ u z w. w;
  inside = λ k q. q;
  done = λ a b p q r. absurd (false≢true (sym q ∙ p));
}

-- c, the lowest of those left, is taken out
module _ (rows : List ℕ) (seed s left : Set) (g : Spreading rows seed s left) (c : ℕ) (ec : c ≡ lowest_below 256 left) (hc : c < 256) (row rest fresh left' s' : Set) (er : (k : ℕ) → row k ≡ row_has rows c k)
    (et : (k : ℕ) → rest k ≡ not (eqb k (lowest_below 256 left)) && left k) (ef : (k : ℕ) → fresh k ≡ row k && not (s k)) (el : (k : ℕ) → left' k ≡ rest k || fresh k) (es : (k : ℕ) → s' k ≡ s k || row k) where
  lowest : Lowest left c
  lowest = lowest_of left c ec

  -- it is left; members stay members
  here : left c ≡ true
  here = lowest.hit hc

  keeps : Inside s s'
  keeps k q = es k ∙ rw q

  -- who is left afterwards
  left_in : Inside left' s'
  left_in k q = ⊎_elim
      (λ r. keeps k (g.inside k (and_right (not (eqb k c)) (left k) (sym (rest_without left c lowest rest et k) ∙ r))))
      (λ r. es k ∙ or_right (s k) (row k) (and_left (row k) (not (s k)) (sym (ef k) ∙ r)))
      (or_cases (rest k) (fresh k) (sym (el k) ∙ q))

  -- a member whose row is taken in stays so, and c is one now
  left_not : (k : ℕ) → s k ≡ true → not (eqb k c) && left k ≡ false → left' k ≡ false
  left_not k p q = el k ∙ rw (rest_without left c lowest rest et k ∙ q, ef k, p, and-false (row k))

  pub spreading_on : Spreading rows seed s' left'
  spreading_on = record {
    holds = λ k q. keeps k (g.holds k q);
    least = λ u z w k q. ⊎_elim (g.least u z w k) (λ r. z c k (g.least u z w c (g.inside c here)) (sym (er k) ∙ r)) (or_cases (s k) (row k) (sym (es k) ∙ q));
    inside = left_in;
    done = λ a b p q r. after a b p q r (same? a c);
  }
    where
      after : (a b : ℕ) → s' a ≡ true → left' a ≡ false → row_has rows a b ≡ true → {t : Bool} → Same a c t → s' b ≡ true
      after a b p q r (same e) = es b ∙ or_right (s b) (row b) (er b ∙ (rw e at r))
      after a b p q r (other n) = ⊎_elim old (go (s a) refl) (or_cases (s a) (row a) (sym (es a) ∙ p))
        where
          old : s a ≡ true → s' b ≡ true
          old m = keeps b (g.done a b m (no_true (left a) (λ t. false≢true (sym q ∙ el a ∙ or_left (rest a) (fresh a) (rest_without left c lowest rest et a ∙ rw (ne_eqb a c n, t))))) r)

          go : (in-s : Bool) → s a ≡ in-s → row a ≡ true → s' b ≡ true
          go true m _ = old m
          go false m t = absurd (false≢true (sym q ∙ el a ∙ or_right (rest a) (fresh a) (ef a ∙ rw (t, m))))

  -- and more rows have been taken in, which leaves fewer of the 256
  pub spreading_less : 256 - count_below 256 (λ k. s' k && not (left' k)) < 256 - count_below 256 (λ k. s k && not (left k))
  spreading_less = omega (
    arith,
    count-le 256 (λ k. s' k && not (left' k)),
    count-more 256 (λ k. s k && not (left k)) (λ k. s' k && not (left' k)) more c hc (rw (here, and-false (s c))) (rw (keeps c (g.inside c here), left_not c (g.inside c here) (rw (eqb_same c)))),
  )
    where
      more : Within 256 (λ k. s k && not (left k)) (λ k. s' k && not (left' k))
      more k h q =
          let p = and_left (s k) (not (left k)) q in
          rw (keeps k p, left_not k p (rw (not-true (left k) (and_right (s k) (not (left k)) q), and-false (not (eqb k c)))))

-- none is left
pub spreading_end : (rows : List ℕ) (seed s left : Set) → Spreading rows seed s left → 256 ≡ lowest_below 256 left → ((k : ℕ) → 256 ≤ k → s k ≡ false) → Spread rows seed s
spreading_end rows seed s left g e above = record { holds = g.holds; closed = λ a b p r. g.done a b p (nobody a p (dec_lt a 256)) r; least = g.least }
  where
    nobody : (a : ℕ) → s a ≡ true → Dec (a < 256) → left a ≡ false
    nobody a p (yes l) = (lowest_of left 256 e).before a l
    nobody a p (no n) = absurd (false≢true (sym (above a (omega arith)) ∙ p))

-- THE CLOSURE: rows in which the first n ties are noted
module _ (low : ℕ) (bs : List ℕ) (n : ℕ) (rows : List ℕ) (is : (x y : ℕ) → row_has rows x y ≡ gone_in low bs n x y) (seed r : Set) (z : Spread rows seed r) where
  -- what a tie leads to is in the row
  in_row : (j x y : ℕ) → j < n → gone_along low (tie_at bs j) x y ≡ true → row_has rows x y ≡ true
  unfolding gone_in gone_at
  in_row j x y h e = is x y ∙ any_intro n (gone_at low bs x y) j h e

  -- and nothing else
  of_row : (u : Set) → Stable low (tie_at bs) n u → (x y : ℕ) → u x ≡ true → row_has rows x y ≡ true → u y ≡ true
  unfolding gone_in gone_at gone_along
  of_row u w x y p e = let (j, h, q) = any_elim n (gone_at low bs x y) (sym (is x y) ∙ e) in ⊎_elim
      (λ a. let f = and_right (eqb x (tie_at bs j).leader) _ a in
      rw (eqb-true y (tie_at bs j).follower (and_left _ (follows low (tie_at bs j).kind) f)) (w j h _ (pulled-follower low (tie_at bs j) u (and_right (eqb y (tie_at bs j).follower) _ f) (rw (eqb-true x (tie_at bs j).leader (and_left _ _ a)) at p))))
      (λ a. let f = and_right (eqb x (tie_at bs j).follower) _ a in
      rw (eqb-true y (tie_at bs j).leader (and_left _ (is_group (tie_at bs j).kind) f)) (w j h _ (pulled-leader low (tie_at bs j) u (and_right (eqb y (tie_at bs j).leader) _ f) (rw (eqb-true x (tie_at bs j).follower (and_left _ _ a)) at p))))
      (or_cases _ _ q)

  spread_grows : Growing low (tie_at bs) n seed r
  spread_grows = record { holds = z.holds; least = λ u w. z.least u (of_row u w) }

  spread_stable : Stable low (tie_at bs) n r
  unfolding gone_along
  spread_stable j h = pulled-within low (tie_at bs j) r r (λ k e. e)
      (λ f e. z.closed l o e (in_row j l o h (or_left (eqb l l && (eqb o o && follows low (tie_at bs j).kind)) _ (and_both (eqb l l) _ (eqb_same l) (and_both (eqb o o) _ (eqb_same o) f)))))
      (λ g e. z.closed o l e (in_row j o l h (or_right (eqb o l && (eqb l o && follows low (tie_at bs j).kind)) (eqb o o && (eqb l l && is_group (tie_at bs j).kind)) (and_both (eqb o o) _ (eqb_same o) (and_both (eqb l l) _ (eqb_same l) g)))))
    where
      l : ℕ
      l = (tie_at bs j).leader

      o : ℕ
      o = (tie_at bs j).follower

-- what spreads along rows of zeros in which the ties of a section were noted is the closure
pub spread_section : (along : Along) (low : ℕ) (bs : List ℕ) (ts : List TieRecord) (n : ℕ) (rows : List ℕ) (seed r : Set) → low ≡ low_kind along → Bytes bs → 4 * n ≤ length bs → length ts ≡ n → bs ≡ tie_section ts
    → ((x y : ℕ) → row_has rows x y ≡ row_has (replicate 1024 0) x y || gone_in low bs n x y) → Spread rows seed r → (k : ℕ) → r k ≡ closure 256 (relation along ts) seed k
spread_section along low bs ts n rows seed r q bytes room len e is z = section_closure along bs ts n seed r bytes room len e (rw q at (spread_grows low bs n rows noted_as seed r z)) (rw q at (spread_stable low bs n rows noted_as seed r z))
  where
    noted_as : (x y : ℕ) → row_has rows x y ≡ gone_in low bs n x y
    noted_as x y = is x y ∙ rw (rows_none x y)
