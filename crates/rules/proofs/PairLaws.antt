-- The test for a clash: what is known of who is in the way; and clashes pair by pair, since nobody is in the way of a lock that is held exactly
-- when each two have a permit. Assumes nothing.
use mathlib.Core.Path.{◌≡◌, refl, sym, ◌∙◌, ap}
use mathlib.Core.Logic.{◌≢◌}
use mathlib.Core.Bool.{Bool, true, false, not, ◌&&◌, ◌||◌, and_comm, and-false, or_comm, false≢true}
use Prim.Native.Nat.{ℕ, suc, ◌<◌}
use native.Mathlib.Omega.{arith}
use lib.Dec.{ltb, eqb}
use borrow.Author.Tests.{not-true, not-false, eqb-true, eqb-false, eq-eqb, ne_eqb}
use Rattle.rules.specs.Base.{all_below, lowest_or_zero}
use Rattle.rules.specs.Sets.{Set}
use Rattle.rules.specs.Window.{Window}
use Rattle.rules.specs.Locks.{clash, permitted, clashing, blocking, blocker_of, either_permits, clashes_permitted}
use Rattle.rules.proofs.BaseLaws.{and_left, and_right, both_ways, eqb_sym, all_below_intro, all_below_at, none_below}
use Rattle.rules.proofs.BoundLaws.{all_ext, lowest_zero, zero_lowest}

pub clash_swap : (a b : ℕ) → clash a b ≡ clash b a
unfolding clash
clash_swap a b = ap (λ x. x && (eqb a 2 || eqb b 2)) (and_comm (ltb 0 a) (ltb 0 b)) ∙ ap (λ x. ltb 0 b && ltb 0 a && x) (or_comm (eqb a 2) (eqb b 2))

-- who is in the way is another, clashes and has not permitted
pub blocking-parts : (clashes permits : Set) (c d : ℕ) → blocking clashes permits c d ≡ true → (d ≢ c) × (clashes d ≡ true) × (permits d ≡ false)
unfolding blocking
blocking-parts clashes permits c d q =
    let u = and_left (not (eqb d c) && clashes d) _ q in
    (eqb-false d c (not-true _ (and_left (not (eqb d c)) _ u)), and_right (not (eqb d c)) _ u, not-true _ (and_right (not (eqb d c) && clashes d) _ q))

-- nobody is in the way where every other that clashes has permitted
pub nobody_blocks : (n : ℕ) (clashes permits : Set) (c : ℕ) → ((d : ℕ) → d < n → d ≢ c → clashes d ≡ true → permits d ≡ true) → lowest_or_zero n (blocking clashes permits c) ≡ 0
nobody_blocks n clashes permits c f = zero_lowest n (blocking clashes permits c) (none_below n (blocking clashes permits c) (λ d h q. let p = blocking-parts clashes permits c d q in false≢true (sym p.2 ∙ f d h p.0 p.1)))

-- and back, where 0 does not clash
pub others_permit : (n : ℕ) (clashes permits : Set) (c : ℕ) → clashes 0 ≡ false → lowest_or_zero n (blocking clashes permits c) ≡ 0 → (d : ℕ) → d < n → d ≢ c → clashes d ≡ true → permits d ≡ true
unfolding blocking
others_permit n clashes permits c z e d h o q = not-false _ (rw (ne_eqb d c o, q) at (lowest_zero n (blocking clashes permits c) (rw (z, and-false (not (eqb 0 c)))) e d h))

-- two changes on an entry: a "clashing pair has a permit from one of the two to the other, or to anybody, that contains the taker's held mode"
unfoldable pub pair_permitted : Window → ℕ → ℕ → ℕ → Bool
pair_permitted W e a b = eqb a b || not (clash (W.held e a) (W.held e b)) || permitted W.permits a b e (W.held e b) || permitted W.permits b a e (W.held e a)

-- each two
unfoldable pub entry_permitted : Window → ℕ → Bool
entry_permitted W e = all_below (suc W.given) (λ a. all_below (suc W.given) (λ b. pair_permitted W e a b))

module _ (W : Window) (e : ℕ) where
  -- who is in the way of a lock that is held
  abbrev InWay : ℕ → Set
  InWay b = blocking (clashing W e (W.held e b)) (λ d. either_permits W e d b) b

  -- a pair has no permit where one of the two is in the other's way
  pair_blocks : (a b : ℕ) → InWay b a ≡ not (pair_permitted W e a b)
  unfolding clashing blocking pair_permitted either_permits
  pair_blocks a b = go (eqb a b) (clash (W.held e a) (W.held e b)) (permitted W.permits a b e (W.held e b)) (permitted W.permits b a e (W.held e a))
    where
      go : (p q r s : Bool) → not p && q && not (r || s) ≡ not (p || not q || r || s)
      go true q r s = refl
      go false true true s = refl
      go false true false s = refl
      go false false r s = refl

  pair_swap : (a b : ℕ) → pair_permitted W e a b ≡ pair_permitted W e b a
  unfolding pair_permitted
  pair_swap a b = rw (eqb_sym a b, clash_swap (W.held e a) (W.held e b)) (go (eqb b a || not (clash (W.held e b) (W.held e a))) (permitted W.permits a b e (W.held e b)) (permitted W.permits b a e (W.held e a)))
    where
      go : (x r s : Bool) → x || r || s ≡ x || s || r
      go true r s = refl
      go false r s = or_comm r s

  self : pair_permitted W e 0 0 ≡ true
  unfolding pair_permitted
  self = refl

  free : ℕ → Bool
  free b = eqb (blocker_of W (λ d. either_permits W e d b) b e (W.held e b)) 0

  -- where change 0 is not in the way nobody is
  unblocked : (b : ℕ) → free b ≡ true → pair_permitted W e 0 b ≡ true → (a : ℕ) → a < suc W.given → pair_permitted W e a b ≡ true
  unfolding free blocker_of
  unblocked b f z a h = not-false _ (sym (pair_blocks a b) ∙ lowest_zero (suc W.given) (InWay b) (pair_blocks 0 b ∙ ap not z) (eqb-true _ 0 f) a h)

  -- and where each two have a permit nobody is
  permitted_free : (b : ℕ) → ((a : ℕ) → a < suc W.given → pair_permitted W e a b ≡ true) → free b ≡ true
  unfolding free blocker_of clashing pair_permitted either_permits
  permitted_free b f = eq-eqb _ 0 (nobody_blocks (suc W.given) (clashing W e (W.held e b)) (λ d. either_permits W e d b) b (λ a h n q. rw (ne_eqb a b n, q) at (f a h)))

  -- of one entry. A number of 0 says nobody, so the test does not show change 0 in the way of b; but then b is in the way of 0
  entry_pairs : all_below (suc W.given) free ≡ entry_permitted W e
  unfolding entry_permitted
  entry_pairs = both_ways _ _
      (λ h. all_below_intro (suc W.given) _ (λ a p. all_below_intro (suc W.given) _ (λ b q. unblocked b (all_below_at (suc W.given) free h b q)
      (pair_swap 0 b ∙ unblocked 0 (all_below_at (suc W.given) free h 0 (omega arith)) self b q) a p)))
      (λ h. all_below_intro (suc W.given) free (λ b q. permitted_free b (λ a p. all_below_at (suc W.given) _ (all_below_at (suc W.given) (λ y. all_below (suc W.given) (λ x. pair_permitted W e y x)) h a p) b q)))

-- on every entry
pub by_pairs : (W : Window) → clashes_permitted W ≡ all_below W.entries (entry_permitted W)
unfolding clashes_permitted free
by_pairs W = all_ext _ _ W.entries (λ e h. entry_pairs W e)
