-- The closure of a set is the least closed set that holds it. Assumes nothing.
use mathlib.Core.Path.{◌≡◌}
use mathlib.Core.Logic.{⊎_elim}
use mathlib.Core.Bool.{true, ◌&&◌}
use Prim.Native.Nat.{ℕ, zero, suc, ◌+◌, ◌≤◌, ◌<◌}
use native.Mathlib.Nat.{eq-or-lt_of_le}
use native.Mathlib.Omega.{arith}
use borrow.Author.Tests.{eqb-true}
use Rattle.rules.specs.Base.{count_below}
use Rattle.rules.specs.Sets.{Set, Rel, only, grow, times, closure, reach}
use Rattle.rules.proofs.BaseLaws.{or_left, or_right, or_cases, and_both, and_left, and_right, any_intro, any_elim, Within, count-le, count-within, count_same, eqb_same}

abbrev pub Closed : ℕ → Rel → Set → Type 0
Closed n r s = (d c : ℕ) → d < n → c < n → s d ≡ true → r d c ≡ true → s c ≡ true

module _ (n : ℕ) (r : Rel) where
  grow_keeps : (s : Set) → (c : ℕ) → s c ≡ true → grow n r s c ≡ true
  unfolding grow
  grow_keeps s c e = or_left (s c) _ e

  times_keeps : (k : ℕ) (s : Set) → (c : ℕ) → s c ≡ true → times k (grow n r) s c ≡ true
  unfolding times
  times_keeps zero s c e = e
  times_keeps (suc k) s c e = times_keeps k (grow n r s) c (grow_keeps s c e)

  -- what is reached has whatever the seed has and the relation hands on
  module _ (Q : ℕ → Type 0) (z : (d e : ℕ) → d < n → Q d → r d e ≡ true → Q e) where
    grow-to : (s : Set) → ((c : ℕ) → s c ≡ true → Q c) → (c : ℕ) → grow n r s c ≡ true → Q c
    unfolding grow
    grow-to s w c e = ⊎_elim (w c)
        (λ q. let a = any_elim n (λ d. s d && r d c) q in z a.0 c a.1 (w a.0 (and_left (s a.0) (r a.0 c) a.2)) (and_right (s a.0) (r a.0 c) a.2))
        (or_cases (s c) _ e)

    times-to : (k : ℕ) (s : Set) → ((c : ℕ) → s c ≡ true → Q c) → (c : ℕ) → times k (grow n r) s c ≡ true → Q c
    unfolding times
    times-to zero s w = w
    times-to (suc k) s w = times-to k (grow n r s) (grow-to s w)

    pub closure-to : (s : Set) → ((c : ℕ) → s c ≡ true → Q c) → (d : ℕ) → closure n r s d ≡ true → Q d
    unfolding closure
    closure-to = times-to n

    pub reach-to : (c : ℕ) → Q c → (d : ℕ) → reach n r c d ≡ true → Q d
    unfolding reach only
    reach-to c e = closure-to (only c) (λ d q. rw (eqb-true d c q) e)

  -- and so what lies within a closed set stays within it
  times-within : (k : ℕ) (s t : Set) → Closed n r t → Within n s t → Within n (times k (grow n r) s) t
  times-within k s t z w c h e = times-to (λ d. d < n → t d ≡ true) (λ d x hd q p hx. z d x hd hx (q hd) p) k s (λ d q hd. w d hd q) c e h

  -- a set that does not grow is closed
  still_closed : (s : Set) → Within n (grow n r s) s → Closed n r s
  unfolding grow
  still_closed s w d c hd hc e q = w c hc (or_right (s c) _ (any_intro n (λ x. s x && r x c) d hd (and_both (s d) (r d c) e q)))

  closed_same : (s t : Set) → Within n s t → Within n t s → Closed n r s → Closed n r t
  closed_same s t f g z d c hd hc e q = f c hc (z d c hd hc (g d hd e) q)

  times-closed : (k : ℕ) (s : Set) → n ≤ k + count_below n s → Closed n r (times k (grow n r) s)
  unfolding times
  times-closed zero s h = still_closed s (count_same n s (grow n r s) (λ c l e. grow_keeps s c e) (omega (arith, count-le n (grow n r s))))
  times-closed (suc k) s h =
      let w : Within n s (grow n r s) = λ c l e. grow_keeps s c e in
      let m : count_below n s ≤ count_below n (grow n r s) = count-within n s (grow n r s) w in
      ⊎_elim
      (λ q. let z : Closed n r s = still_closed s (count_same n s (grow n r s) w (omega arith)) in
      closed_same s (times k (grow n r) (grow n r s)) (λ c l e. times_keeps k (grow n r s) c (grow_keeps s c e)) (times-within (suc k) s s z (λ c l e. e)) z)
      (λ l. times-closed k (grow n r s) (omega arith))
      (eq-or-lt_of_le m)

  -- it holds the set, is closed, and lies within every closed set that holds the set
  pub closure-holds : (s : Set) (c : ℕ) → s c ≡ true → closure n r s c ≡ true
  unfolding closure
  closure-holds = times_keeps n

  pub closure-closed : (s : Set) → Closed n r (closure n r s)
  unfolding closure
  closure-closed s = times-closed n s (omega arith)

  closure-least : (s t : Set) → Within n s t → Closed n r t → Within n (closure n r s) t
  unfolding closure
  closure-least s t w z = times-within n s t z w

  -- the same of one change
  pub reach_seed : (c : ℕ) → reach n r c c ≡ true
  unfolding reach only
  reach_seed c = closure-holds (only c) c (eqb_same c)

  pub reach-closed : (c : ℕ) → Closed n r (reach n r c)
  unfolding reach
  reach-closed c = closure-closed (only c)

  pub reach-least : (c : ℕ) (t : Set) → t c ≡ true → Closed n r t → Within n (reach n r c) t
  unfolding reach only
  reach-least c t e = closure-least (only c) t (λ d l q. rw (eqb-true d c q) e)
