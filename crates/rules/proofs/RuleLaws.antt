-- A call that is turned back leaves the window as it was, a blocked one too but for a lock's place in line, and one answered 0 was not refused; open answers the same whatever it was. Assumes nothing.
use mathlib.Core.Path.{◌≡◌, refl, sym, ◌∙◌}
use mathlib.Core.Logic.{◌≢◌}
use mathlib.Core.Bool.{Bool, true, false, cond, ◌&&◌, ◌||◌, false≢true}
use mathlib.Core.List.{List, [], ◌∷◌}
use Prim.Native.Nat.{ℕ, zero, suc, ◌≤◌, ◌<◌}
use native.Mathlib.Omega.{arith}
use lib.Dec.{ltb}
use borrow.Author.Tests.{ltb-true}
use Rattle.rules.specs.Base.{exceeds, all}
use Rattle.rules.specs.Window.{Limits, Window, fresh}
use Rattle.rules.specs.Calls.{Call, Open, Initiate, Begin, Complete, Lock, Read, Write, Permit, Delegate, Depend, Commit, Abort, Status, Parent, Value, Outcome, unchanged, blocked, done}
use Rattle.rules.specs.Effects.{effect, wait, lock_entry, commit_change, commit_group, abort_change, abort_all}
use Rattle.rules.specs.Events.{Action, opening, initiating, nothing, locking, permitting, delegating, tying, action_of, is_opening, is_open}
use Rattle.rules.specs.Refusals.{Check, step, settle, checks, ◌if◌, first_failed}
use Rattle.rules.proofs.BaseLaws.{and_left, and_right}

-- what a blocked call leaves: a lock "alters the window by its place in line", a commit does not alter it
unfoldable pub blocked_window : Window → Action → Window
blocked_window W opening = W
blocked_window W initiating = W
blocked_window W nothing = W
blocked_window W (locking c e m) = wait W c e m
blocked_window W (permitting g t e o) = W
blocked_window W (delegating f t e) = W
blocked_window W (tying k l f) = W

-- an answer other than 0 and 20 leaves the window as it was, and its second number is 0; 20 leaves X
pub record Quiet (W X : Window) (o : Outcome) : Type 0 where
  pub same : o.answer ≢ 0 → o.answer ≢ 20 → o.after ≡ W
  pub number : o.answer ≢ 0 → o.answer ≢ 20 → o.number ≡ 0
  pub blocks : o.answer ≡ 20 → o.after ≡ X

quiet_done : (W X Y : Window) (k : ℕ) → Quiet W X (done k Y)
unfolding done
quiet_done W X Y k = record { same = λ h l. absurd (h refl); number = λ h l. absurd (h refl); blocks = λ h. absurd (omega arith) }

quiet_refused : (W X : Window) (a : ℕ) → a ≢ 20 → Quiet W X (unchanged a 0 W)
unfolding unchanged
quiet_refused W X a n = record { same = λ h l. refl; number = λ h l. refl; blocks = λ h. absurd (n h) }

quiet_blocked : (W : Window) (k : ℕ) → Quiet W W (unchanged 20 k W)
unfolding unchanged
quiet_blocked W k = record { same = λ h l. refl; number = λ h l. absurd (l refl); blocks = λ h. refl }

quiet_waits : (W X : Window) (k : ℕ) → Quiet W X (blocked k X)
unfolding blocked
quiet_waits W X k = record { same = λ h l. absurd (l refl); number = λ h l. absurd (l refl); blocks = λ h. refl }

quiet_ended : (W X : Window) → Quiet W X (unchanged 21 0 W)
quiet_ended W X = quiet_refused W X 21 (λ e. omega arith)

quiet_cond : (W X : Window) (b : Bool) (x y : Outcome) → Quiet W X x → Quiet W X y → Quiet W X (cond b x y)
quiet_cond W X true x y p q = p
quiet_cond W X false x y p q = q

quiet_settle : (W X : Window) (a : ℕ) (o : Outcome) → a ≢ 20 → Quiet W X o → Quiet W X (settle a W o)
unfolding settle
quiet_settle W X zero o n q = q
quiet_settle W X (suc a) o n q = quiet_refused W X (suc a) n

ruleset quiets = (quiet_done, quiet_ended, quiet_blocked, quiet_waits, quiet_cond)

quiet_effect : (W : Window) (c : Call) → Quiet W (blocked_window W (action_of c)) (effect W c)
unfolding effect lock_entry commit_change commit_group abort_change abort_all action_of blocked_window
quiet_effect W (Open n) = search quiets
quiet_effect W (Initiate p) = search quiets
quiet_effect W (Begin c) = search quiets
quiet_effect W (Complete c) = search quiets
quiet_effect W (Lock c e m) = search quiets
quiet_effect W (Read c e) = search quiets
quiet_effect W (Write c e v) = search quiets
quiet_effect W (Permit g t e o) = search quiets
quiet_effect W (Delegate f t e) = search quiets
quiet_effect W (Depend k l f) = search quiets
quiet_effect W (Commit c) = search quiets
quiet_effect W (Abort c) = search quiets
quiet_effect W (Status c) = search quiets
quiet_effect W (Parent c) = search quiets
quiet_effect W (Value e) = search quiets

-- refusals are numbered from 1 to 19
pub numbered : (L : Limits) (W : Window) (c : Call) → all (λ k. ltb 0 k.code && ltb k.code 20) (checks L W c) ≡ true
unfolding all checks ◌if◌
numbered L W (Open n) = refl
numbered L W (Initiate p) = refl
numbered L W (Begin c) = refl
numbered L W (Complete c) = refl
numbered L W (Lock c e m) = refl
numbered L W (Read c e) = refl
numbered L W (Write c e v) = refl
numbered L W (Permit g t e o) = refl
numbered L W (Delegate f t e) = refl
numbered L W (Depend k l f) = refl
numbered L W (Commit c) = refl
numbered L W (Abort c) = refl
numbered L W (Status c) = refl
numbered L W (Parent c) = refl
numbered L W (Value e) = refl

first_low : (l : List Check) → all (λ k. ltb 0 k.code && ltb k.code 20) l ≡ true → first_failed l < 20
unfolding all first_failed
first_low [] e = omega arith
first_low (k ∷ l) e = go k.fails (first_low l (and_right (ltb 0 k.code && ltb k.code 20) _ e))
  where
    go : (b : Bool) → first_failed l < 20 → cond b k.code (first_failed l) < 20
    go true h = ltb-true k.code 20 (and_right (ltb 0 k.code) _ (and_left (ltb 0 k.code && ltb k.code 20) _ e))
    go false h = h

pub refusal_low : (L : Limits) (W : Window) (c : Call) → first_failed (checks L W c) < 20
refusal_low L W c = first_low (checks L W c) (numbered L W c)

pub quiet : (L : Limits) (W : Window) (c : Call) → Quiet W (blocked_window W (action_of c)) (step L W c)
unfolding step
quiet L W c = let h = refusal_low L W c in quiet_settle W _ (first_failed (checks L W c)) (effect W c) (λ e. omega arith) (quiet_effect W c)

-- a call answered with a number that no refusal has was not refused; so one answered 0
pub unrefused_by : (L : Limits) (W : Window) (c : Call) (k : ℕ) → (0 < k → 20 ≤ k) → (step L W c).answer ≡ k → (first_failed (checks L W c) ≡ 0) × (step L W c ≡ effect W c)
unfolding step settle unchanged
unrefused_by L W c k n = go (first_failed (checks L W c)) (refusal_low L W c)
  where
    go : (a : ℕ) → a < 20 → (settle a W (effect W c)).answer ≡ k → (a ≡ 0) × (settle a W (effect W c) ≡ effect W c)
    go zero h e = (refl, refl)
    go (suc a) h e = absurd (omega (arith, n (omega arith)))

pub done_unrefused : (L : Limits) (W : Window) (c : Call) → (step L W c).answer ≡ 0 → (first_failed (checks L W c) ≡ 0) × (step L W c ≡ effect W c)
done_unrefused L W c = unrefused_by L W c 0 (λ h. omega arith)

-- a call that is an open
pub is_open_lem : (c : Call) → is_open c ≡ true → (n : ℕ) × (c ≡ Open n)
unfolding is_open action_of is_opening
is_open_lem (Open n) e = (n, refl)
is_open_lem (Initiate p) e = absurd (false≢true e)
is_open_lem (Begin c) e = absurd (false≢true e)
is_open_lem (Complete c) e = absurd (false≢true e)
is_open_lem (Lock c x m) e = absurd (false≢true e)
is_open_lem (Read c x) e = absurd (false≢true e)
is_open_lem (Write c x v) e = absurd (false≢true e)
is_open_lem (Permit g t x o) e = absurd (false≢true e)
is_open_lem (Delegate f t x) e = absurd (false≢true e)
is_open_lem (Depend k l f) e = absurd (false≢true e)
is_open_lem (Commit c) e = absurd (false≢true e)
is_open_lem (Abort c) e = absurd (false≢true e)
is_open_lem (Status c) e = absurd (false≢true e)
is_open_lem (Parent c) e = absurd (false≢true e)
is_open_lem (Value x) e = absurd (false≢true e)

-- open answers 2 or 0
pub open_is : (L : Limits) (W : Window) (n : ℕ) → (step L W (Open n)).answer ≡ cond (ltb n 1 || exceeds n L.entries) 2 0
unfolding step checks ◌if◌ first_failed effect settle done unchanged
open_is L W n = go (ltb n 1 || exceeds n L.entries)
  where
    go : (b : Bool) → (settle (cond b 2 0) W (done 0 (fresh n))).answer ≡ cond b 2 0
    go true = refl
    go false = refl

-- the same whatever the window was
pub open_answer : (L : Limits) (W X : Window) (n : ℕ) → (step L W (Open n)).answer ≡ (step L X (Open n)).answer
open_answer L W X n = open_is L W n ∙ sym (open_is L X n)

pub open_number : (L : Limits) (W : Window) (n : ℕ) → (step L W (Open n)).number ≡ 0
unfolding step checks ◌if◌ first_failed effect settle done unchanged
open_number L W n = go (ltb n 1 || exceeds n L.entries)
  where
    go : (b : Bool) → (settle (cond b 2 0) W (done 0 (fresh n))).number ≡ 0
    go true = refl
    go false = refl
