-- What ties add to a set, one by one and in passes; where a pass adds nothing, none of its ties does. Assumes nothing.
use mathlib.Core.Path.{◌≡◌, sym, fun_ext, ◌∙◌}
use mathlib.Core.Bool.{Bool, true, false, ◌&&◌, ◌||◌}
use mathlib.Core.Logic.{⊎_elim}
use Prim.Native.Nat.{ℕ, zero, suc, ◌+◌, ◌≤◌, ◌<◌}
use native.Mathlib.Nat.{not-suc-le-zero}
use native.Mathlib.Numerals.{add-one}
use native.Mathlib.Omega.{arith}
use lib.Dec.{leb, eqb}
use borrow.Author.Tests.{eqb-true, leb-true, le-leb}
use Rattle.rules.specs.Sets.{Set}
use Rattle.rules.specs.Window.{TieRecord}
use Rattle.rules.specs.Ties.{is_group}
use Rattle.rules.proofs.BaseLaws.{or_left, or_right, or_cases, and_both, and_left, and_right, both_ways, eqb_same, Same, same, other, same?}
use Rattle.passes.specs.Passes.{follows, place_from, pulled, passed}

-- a member of the one is a member of the other
abbrev pub Inside : Set → Set → Type 0
Inside s u = (k : ℕ) → s k ≡ true → u k ≡ true

-- KINDS
-- a kind from the lowest one to 3 is gone along
pub follows_of : (low k : ℕ) → low ≤ k → k ≤ 3 → follows low k ≡ true
unfolding follows
follows_of low k h l = rw (le-leb low k h, le-leb k 3 l)

-- what such a kind is
pub follows_low : (low k : ℕ) → follows low k ≡ true → low ≤ k
unfolding follows
follows_low low k e = leb-true low k (and_left (leb low k) (leb k 3) e)

pub follows_high : (low k : ℕ) → follows low k ≡ true → k ≤ 3
unfolding follows
follows_high low k e = leb-true k 3 (and_right (leb low k) (leb k 3) e)

-- ONE TIE
and_three : (a b c : Bool) → a && (b && c) ≡ true → (a ≡ true) × (b ≡ true) × (c ≡ true)
and_three a b c e = let r = and_right a (b && c) e in (and_left a (b && c) e, and_left b c r, and_right b c r)

module _ (low : ℕ) (t : TieRecord) (s : Set) where
  -- the members stay
  pulled_keeps : Inside s (pulled low t s)
  unfolding pulled
  pulled_keeps k e = or_left (s k || eqb k t.follower && (follows low t.kind && s t.leader)) _ (or_left (s k) _ e)

  -- the follower comes in with the leader
  pub pulled-follower : follows low t.kind ≡ true → s t.leader ≡ true → pulled low t s t.follower ≡ true
  unfolding pulled
  pulled-follower f e = or_left (s t.follower || eqb t.follower t.follower && (follows low t.kind && s t.leader)) _
      (or_right (s t.follower) _ (and_both (eqb t.follower t.follower) _ (eqb_same t.follower) (and_both (follows low t.kind) (s t.leader) f e)))

  -- a group tie's leader comes in with the follower
  pub pulled-leader : is_group t.kind ≡ true → s t.follower ≡ true → pulled low t s t.leader ≡ true
  unfolding pulled
  pulled-leader g e = or_right (s t.leader || eqb t.leader t.follower && (follows low t.kind && s t.leader)) _
      (and_both (eqb t.leader t.leader) _ (eqb_same t.leader) (and_both (is_group t.kind) (s t.follower) g e))

  -- and nothing else comes in
  pub pulled-within : (u : Set) → Inside s u → (follows low t.kind ≡ true → s t.leader ≡ true → u t.follower ≡ true) → (is_group t.kind ≡ true → s t.follower ≡ true → u t.leader ≡ true)
      → Inside (pulled low t s) u
  unfolding pulled
  pulled-within u w f g k e = ⊎_elim
      (λ p. ⊎_elim (w k) (λ q. let r = and_three (eqb k t.follower) (follows low t.kind) (s t.leader) q in rw (eqb-true k t.follower r.0) (f r.1 r.2)) (or_cases (s k) _ p))
      (λ q. let r = and_three (eqb k t.leader) (is_group t.kind) (s t.follower) q in rw (eqb-true k t.leader r.0) (g r.1 r.2))
      (or_cases (s k || eqb k t.follower && (follows low t.kind && s t.leader)) _ e)

  -- nothing to add
  pub pulled_none : (follows low t.kind ≡ true → s t.leader ≡ true → s t.follower ≡ true) → (is_group t.kind ≡ true → s t.follower ≡ true → s t.leader ≡ true) → (k : ℕ) → s k ≡ pulled low t s k
  pulled_none f g k = both_ways (s k) (pulled low t s k) (pulled_keeps k) (pulled-within s (λ j e. e) f g k)

  -- one number more, and no other
  one_more : (c : ℕ) → pulled low t s c ≡ true → Inside (pulled low t s) (λ k. eqb k c || s k) → (k : ℕ) → eqb k c || s k ≡ pulled low t s k
  one_more c e w k = both_ways (eqb k c || s k) (pulled low t s k) (λ q. ⊎_elim (λ p. rw (eqb-true k c p) e) (pulled_keeps k) (or_cases (eqb k c) (s k) q)) (w k)

  -- what is added is the follower
  pub pulled_add_follower : follows low t.kind ≡ true → s t.leader ≡ true → (k : ℕ) → eqb k t.follower || s k ≡ pulled low t s k
  pulled_add_follower f e = one_more t.follower (pulled-follower f e)
      (pulled-within (λ k. eqb k t.follower || s k) (λ k. or_right (eqb k t.follower) (s k)) (λ p q. or_left (eqb t.follower t.follower) _ (eqb_same t.follower)) (λ p q. or_right (eqb t.leader t.follower) (s t.leader) e))

  -- what is added is the leader
  pub pulled_add_leader : is_group t.kind ≡ true → s t.follower ≡ true → (k : ℕ) → eqb k t.leader || s k ≡ pulled low t s k
  pulled_add_leader g e = one_more t.leader (pulled-leader g e)
      (pulled-within (λ k. eqb k t.leader || s k) (λ k. or_right (eqb k t.leader) (s k)) (λ p q. or_right (eqb t.follower t.leader) (s t.follower) e) (λ p q. or_left (eqb t.leader t.leader) _ (eqb_same t.leader)))

-- a larger set pulls in more
pulled_mono : (low : ℕ) (t : TieRecord) (s u : Set) → Inside s u → Inside (pulled low t s) (pulled low t u)
pulled_mono low t s u w = pulled-within low t s (pulled low t u) (λ k e. pulled_keeps low t u k (w k e)) (λ f e. pulled-follower low t u f (w t.leader e)) (λ g e. pulled-leader low t u g (w t.follower e))

-- A PASS
-- a set to which none of the first ties adds anything
abbrev pub Stable : ℕ → (ℕ → TieRecord) → ℕ → Set → Type 0
Stable low t n u = (i : ℕ) → i < n → Inside (pulled low (t i) u) u

module _ (low : ℕ) (t : ℕ → TieRecord) where
  pub passed_keeps : (n : ℕ) (s : Set) → Inside s (passed low t n s)
  unfolding passed
  passed_keeps zero s k e = e
  passed_keeps (suc n) s k e = pulled_keeps low (t n) (passed low t n s) k (passed_keeps n s k e)

  -- one tie more
  pub passed-next : (n : ℕ) (seed s r : Set) → r ≡ pulled low (t n) s → s ≡ passed low t n seed → r ≡ passed low t (n + 1) seed
  unfolding passed
  passed-next n seed s r e q = rw (e, q, add-one n)

  -- it stays within a stable set
  passed-within : (n : ℕ) (s u : Set) → Stable low t n u → Inside s u → Inside (passed low t n s) u
  unfolding passed
  passed-within zero s u z w = w
  passed-within (suc n) s u z w = λ k e.
      z n (omega arith) k (pulled_mono low (t n) (passed low t n s) u (passed-within n s u (λ i l. z i (omega arith)) w) k e)

  -- a set to which a pass adds nothing is stable
  passed_stable : (n : ℕ) (s : Set) → Inside (passed low t n s) s → Stable low t n s
  unfolding passed
  passed_stable zero s w i l = absurd (not-suc-le-zero l)
  passed_stable (suc n) s w i l = go (same? i n) (passed_stable n s (λ k e. w k (pulled_keeps low (t n) (passed low t n s) k e)))
    where
      go : {b : Bool} → Same i n b → Stable low t n s → Inside (pulled low (t i) s) s
      go (same e) rest k q = w k (pulled_mono low (t n) s (passed low t n s) (passed_keeps n s) k (rw e at q))
      go (other d) rest k q = rest i (omega arith) k q

-- PASSES
-- from the seed to s in passes: s holds the seed, and lies within every stable set that does
pub record Growing (low : ℕ) (t : ℕ → TieRecord) (n : ℕ) (seed s : Set) : Type 0 where
  pub holds : Inside seed s
  pub least : (u : Set) → Stable low t n u → Inside seed u → Inside s u

-- a pass comes to places below the count
pub place_below : (back : Bool) (n j : ℕ) → j < n → place_from back n j < n
unfolding place_from
place_below true n j h = omega arith
place_below false n j h = h

module _ (low : ℕ) (t : ℕ → TieRecord) (n : ℕ) where
  pub growing_start : (s : Set) → Growing low t n s s
  growing_start s = record { holds = λ k e. e; least = λ u z w. w }

  -- a pass more, from the first tie on or from the last back
  pub growing_on : (back : Bool) (seed s r : Set) → r ≡ passed low (λ j. t (place_from back n j)) n s → Growing low t n seed s → Growing low t n seed r
  growing_on back seed s r e g = record {
    holds = λ k q. rw e (passed_keeps low (λ j. t (place_from back n j)) n s k (g.holds k q));
    least = λ u z w. rw e (passed-within low (λ j. t (place_from back n j)) n s u (λ i l. z (place_from back n i) (place_below back n i l)) (g.least u z w));
  }

  -- a set in which a pass over it lies is stable
  pub growing_end : (s r : Set) → Inside (passed low t n s) r → ((k : ℕ) → r k ≡ s k) → Stable low t n r
  growing_end s r w h = let q : s ≡ r = fun_ext (λ k. sym (h k)) in rw (← q) (passed_stable low t n s (λ k p. sym (h k) ∙ w k p))
