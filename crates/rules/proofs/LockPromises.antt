-- Demand 2 of a lock, by the number of who is in its way: when it is granted, and whom a blocked one names. Assumes nothing.
use mathlib.Core.Path.{◌≡◌, refl, sym, ◌∙◌, ap}
use mathlib.Core.Logic.{◌⊎◌, inl, inr, ⊎_elim, ◌↔◌, ◌≢◌}
use mathlib.Core.Bool.{Bool, true, false, cond, false≢true}
use Prim.Native.Nat.{ℕ, suc, ◌<◌}
use native.Mathlib.Omega.{arith}
use lib.Dec.{eqb}
use borrow.Author.Tests.{ne_eqb}
use Rattle.rules.specs.Window.{Limits, Window}
use Rattle.rules.specs.Locks.{clash, permitted, clashing, blocking, blocker_of}
use Rattle.rules.specs.Line.{first_in_line, other_first}
use Rattle.rules.specs.Calls.{Lock, done, blocked}
use Rattle.rules.specs.Effects.{covers, leave, put_held, lock_blocker, lock_granted, in_the_way, wait, lock_entry, effect}
use Rattle.rules.specs.Refusals.{checks, first_failed, settle, step}
use Rattle.rules.proofs.BaseLaws.{Same, same, other, same?}
use Rattle.rules.proofs.BoundLaws.{lowest_some}
use Rattle.rules.proofs.PairLaws.{blocking-parts, nobody_blocks}
use Rattle.rules.proofs.RuleLaws.{unrefused_by}
use Rattle.rules.proofs.SoundLock.{grant}
use Rattle.rules.proofs.SoundParts.{Sound}

-- "every clashing holder permits it"
abbrev pub AllPermit : Window → ℕ → ℕ → ℕ → Type 0
AllPermit W c e m = (d : ℕ) → d ≢ c → clash (W.held e d) m ≡ true → permitted W.permits d c e m ≡ true

-- "no other change is first in line"
abbrev pub NoOtherFirst : Window → ℕ → ℕ → Type 0
NoOtherFirst W c e = (first_in_line W.line e ≡ 0) ⊎ (first_in_line W.line e ≡ c)

-- who is in the way of a lock: a "holder that clashes and has not permitted" and, "where there is none", "the first in line". Never the change itself
pub data BlocksLock (W : Window) (c e m d : ℕ) : Type 0 where
  holds : d ≢ c → clash (W.held e d) m ≡ true → permitted W.permits d c e m ≡ false → BlocksLock W c e m d
  stands : AllPermit W c e m → d ≢ c → d ≢ 0 → first_in_line W.line e ≡ d → BlocksLock W c e m d

-- who is in the way by the test for a clash
way_parts : (W : Window) (c e m d : ℕ) → blocking (clashing W e m) (λ x. permitted W.permits x c e m) c d ≡ true → (d ≢ c) × (clash (W.held e d) m ≡ true) × (permitted W.permits d c e m ≡ false)
unfolding clashing
way_parts W c e m d = blocking-parts (clashing W e m) (λ x. permitted W.permits x c e m) c d

-- the other change that is first in line, if there is one
other_none : (f c : ℕ) → cond (eqb f c) 0 f ≡ 0 ↔ ((f ≡ 0) ⊎ (f ≡ c))
other_none f c = go (same? f c)
  where
    go : {b : Bool} → Same f c b → cond b 0 f ≡ 0 ↔ ((f ≡ 0) ⊎ (f ≡ c))
    go (same q) = (λ h. inr q, λ h. refl)
    go (other n) = (inl, λ h. ⊎_elim (λ q. q) (λ q. absurd (n q)) h)

other_some : (f c : ℕ) → cond (eqb f c) 0 f ≢ 0 → (f ≢ c) × (f ≢ 0) × (cond (eqb f c) 0 f ≡ f)
other_some f c = go (same? f c)
  where
    go : {b : Bool} → Same f c b → cond b 0 f ≢ 0 → (f ≢ c) × (f ≢ 0) × (cond b 0 f ≡ f)
    go (same q) h = absurd (h refl)
    go (other n) h = (n, h, refl)

module _ (L : Limits) (W : Window) (z : Sound L W) (c e m : ℕ) where
  free_of_holders : AllPermit W c e m → lock_blocker W c e m ≡ 0
  unfolding lock_blocker blocker_of clashing
  free_of_holders f = nobody_blocks (suc W.given) (clashing W e m) (λ x. permitted W.permits x c e m) c (λ d h. f d)

  pub blocker_none : lock_blocker W c e m ≡ 0 ↔ AllPermit W c e m
  blocker_none = (λ q d n h. ⊎_elim (λ f. absurd (false≢true (rw h at f))) (λ f. f) (grant L W z c e m q d n), free_of_holders)

  -- "the lowest numbered holder that clashes and has not permitted"
  pub blocker_lowest : lock_blocker W c e m ≢ 0 → BlocksLock W c e m (lock_blocker W c e m) × ((d : ℕ) → d < lock_blocker W c e m → BlocksLock W c e m d → ⊥)
  blocker_lowest n =
      let h = found n in
      let b = way_parts W c e m (lock_blocker W c e m) h.0 in
      (holds b.0 b.1 b.2, none_lower h.1)
    where
      found : lock_blocker W c e m ≢ 0 → (blocking (clashing W e m) (λ x. permitted W.permits x c e m) c (lock_blocker W c e m) ≡ true)
          × ((d : ℕ) → d < lock_blocker W c e m → blocking (clashing W e m) (λ x. permitted W.permits x c e m) c d ≡ false)
      found = unfold lock_blocker blocker_of in lowest_some (suc W.given) (blocking (clashing W e m) (λ x. permitted W.permits x c e m) c)

      none_lower : ((d : ℕ) → d < lock_blocker W c e m → blocking (clashing W e m) (λ x. permitted W.permits x c e m) c d ≡ false) → (d : ℕ) → d < lock_blocker W c e m → BlocksLock W c e m d → ⊥
      none_lower f d l (holds o q u) = false≢true (sym (f d l) ∙ unfold blocking clashing in rw (ne_eqb d c o, q, u))
      none_lower f d l (stands a o s q) = n (free_of_holders a)

  -- the number is 0 exactly when every clashing holder permits it and no other change is first in line
  pub way_none : in_the_way W c e m ≡ 0 ↔ AllPermit W c e m × NoOtherFirst W c e
  unfolding in_the_way other_first
  way_none = go (same? (lock_blocker W c e m) 0)
    where
      go : {b : Bool} → Same (lock_blocker W c e m) 0 b → cond b (cond (eqb (first_in_line W.line e) c) 0 (first_in_line W.line e)) (lock_blocker W c e m) ≡ 0 ↔ AllPermit W c e m × NoOtherFirst W c e
      go (same q) = (λ h. (blocker_none.0 q, (other_none (first_in_line W.line e) c).0 h), λ h. (other_none (first_in_line W.line e) c).1 h.1)
      go (other n) = (λ h. absurd (n h), λ h. absurd (n (free_of_holders h.0)))

  -- else it is in the way, and none below it is
  pub way_lowest : in_the_way W c e m ≢ 0 → BlocksLock W c e m (in_the_way W c e m) × ((d : ℕ) → d < in_the_way W c e m → BlocksLock W c e m d → ⊥)
  unfolding in_the_way other_first
  way_lowest = go (same? (lock_blocker W c e m) 0)
    where
      first-only : AllPermit W c e m → (d : ℕ) → d < first_in_line W.line e → BlocksLock W c e m d → ⊥
      first-only a d l (holds o q u) = false≢true (sym u ∙ a d o q)
      first-only a d l (stands b o s q) = omega arith

      go : {b : Bool} → Same (lock_blocker W c e m) 0 b → let k = cond b (cond (eqb (first_in_line W.line e) c) 0 (first_in_line W.line e)) (lock_blocker W c e m) in
          k ≢ 0 → BlocksLock W c e m k × ((d : ℕ) → d < k → BlocksLock W c e m d → ⊥)
      go (same q) h = let s = other_some (first_in_line W.line e) c h in rw s.2 (stands (blocker_none.0 q) s.0 s.1 refl, first-only (blocker_none.0 q))
      go (other n) h = blocker_lowest n

-- "The lock rule, line included, is shown with this number": a lock not already covered is answered 0 exactly when nobody is in its way
module _ (L : Limits) (W : Window) (z : Sound L W) (c e m : ℕ) (passed : first_failed (checks L W (Lock c e m)) ≡ 0) (short : covers (W.held e c) m ≡ false) where
  pub lock_shown : (step L W (Lock c e m)).answer ≡ 0 ↔ (in_the_way W c e m ≡ 0)
  unfolding step settle effect lock_entry lock_granted done blocked
  lock_shown = rw (passed, short) (go (same? (in_the_way W c e m) 0))
    where
      go : {b : Bool} → Same (in_the_way W c e m) 0 b → (cond b (done 0 (leave (put_held W e c m) c)) (blocked (in_the_way W c e m) (wait W c e m))).answer ≡ 0 ↔ (in_the_way W c e m ≡ 0)
      go (same q) = (λ h. q, λ h. refl)
      go (other n) = (λ h. absurd (omega arith), λ h. absurd (n h))

  -- "a lock not already covered is granted exactly when every clashing holder permits it and no other change is first in line"
  pub lock_granted_lem : (step L W (Lock c e m)).answer ≡ 0 ↔ AllPermit W c e m × NoOtherFirst W c e
  lock_granted_lem = (λ a. (way_none L W z c e m).0 (lock_shown.0 a), λ f. lock_shown.1 ((way_none L W z c e m).1 f))

-- what a lock answered 20 gives
module _ (W : Window) (c e m : ℕ) where
  effect-blocked : (effect W (Lock c e m)).answer ≡ 20 → ((effect W (Lock c e m)).number ≡ in_the_way W c e m) × (in_the_way W c e m ≢ 0)
  unfolding effect lock_entry lock_granted done blocked
  effect-blocked = go (covers (W.held e c) m) (same? (in_the_way W c e m) 0)
    where
      go : (b : Bool) {d : Bool} → Same (in_the_way W c e m) 0 d → let o = cond b (done 0 (leave W c)) (cond d (done 0 (leave (put_held W e c m) c)) (blocked (in_the_way W c e m) (wait W c e m))) in
          o.answer ≡ 20 → (o.number ≡ in_the_way W c e m) × (in_the_way W c e m ≢ 0)
      go true s h = absurd (omega arith)
      go false (same q) h = absurd (omega arith)
      go false (other n) h = (refl, n)

-- "A blocked lock reports it as second number; where there is none, it reports the first in line"
pub lock_number : (L : Limits) (W : Window) → Sound L W → (c e m : ℕ) → (step L W (Lock c e m)).answer ≡ 20
    → BlocksLock W c e m (step L W (Lock c e m)).number × ((d : ℕ) → d < (step L W (Lock c e m)).number → BlocksLock W c e m d → ⊥)
lock_number L W z c e m a =
    let u = (unrefused_by L W (Lock c e m) 20 (λ h. omega arith) a).1 in
    let b = effect-blocked W c e m (ap (λ o. o.answer) (sym u) ∙ a) in
    rw (ap (λ o. o.number) u ∙ b.0) (way_lowest L W z c e m b.1)
