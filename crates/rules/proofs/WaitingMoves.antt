-- What a call on a sound window does to the lines, seen from the words of a list of calls. Assumes nothing.
use mathlib.Core.Path.{◌≡◌, refl, sym, ◌∙◌, ap}
use mathlib.Core.Logic.{◌≢◌}
use mathlib.Core.Bool.{Bool, true, false, not, cond, ◌&&◌, and-false}
use Prim.Native.Nat.{ℕ, zero, suc, ◌<◌}
use native.Mathlib.Omega.{arith}
use lib.Dec.{eqb}
use borrow.Author.Tests.{not-false, ne_eqb}
use Rattle.rules.specs.Base.{put, keep, any_below}
use Rattle.rules.specs.Sets.{Set, only, put_all}
use Rattle.rules.specs.Window.{Limits, Window, with_value, with_status, with_held, with_log, with_permits, with_ties, with_line, running}
use Rattle.rules.specs.Ties.{group_of, end_set}
use Rattle.rules.specs.Line.{make_waiter, waits_elsewhere, enter_line, stays_in_line, line_left}
use Rattle.rules.specs.Sound.{waiter_sound}
use Rattle.rules.specs.Calls.{Call, Open, Initiate, Begin, Complete, Lock, Read, Write, Permit, Delegate, Depend, Commit, Abort, Status, Parent, Value, Outcome, done, unchanged, blocked}
use Rattle.rules.specs.Effects.{effect, add_change, leave, complete_change, covers, lock_granted, in_the_way, wait, put_held, lock_entry, write_entry, hand_over, end_all, commit_change, commit_blockers, commit_group, abort_change, withdraw, abort_all}
use Rattle.rules.specs.Refusals.{step, settle, checks, first_failed, ◌if◌}
use Rattle.rules.specs.Events.{action_of, is_opening, is_locking}
use Rattle.rules.proofs.LineLaws.{waiter_parts}
use Rattle.rules.proofs.ListLaws.{keep_same, keep_all}
use Rattle.rules.proofs.RuleLaws.{refusal_low}
use Rattle.rules.proofs.SoundLine.{run_begin}
use Rattle.rules.proofs.SoundParts.{Sound}
use Rattle.rules.proofs.SoundPlain.{run_start}
use Rattle.rules.proofs.SoundStep.{Passed, passed, codes}

-- what a call answered so comes to: only an open and a lock answered 0 or 20 do more than take out those who stop running
pub data Shift (W : Window) (x : Call) (answer : ℕ) (X : Window) : Type 0 where
  opens : is_opening (action_of x) ≡ true → answer ≡ 0 → Shift W x answer X
  goes : ((c e : ℕ) → (eqb answer 0 && is_locking c e (action_of x) ≡ false) × (eqb answer 20 && is_locking c e (action_of x) ≡ false)) → X.line ≡ keep (λ r. running X r.change) W.line → Shift W x answer X
  leaves : (c e m : ℕ) → x ≡ Lock c e m → answer ≡ 0 → waits_elsewhere W.line c e ≡ false → X.status ≡ W.status → X.line ≡ line_left (only c) W.line → Shift W x answer X
  enters : (c e m : ℕ) → x ≡ Lock c e m → answer ≡ 20 → waits_elsewhere W.line c e ≡ false → running W c ≡ true → X.status ≡ W.status → X.line ≡ enter_line (make_waiter c e m) W.line → Shift W x answer X

abbrev Shifts : Window → Call → Outcome → Type 0
Shifts W x o = Shift W x o.answer o.after

module _ (L : Limits) (W : Window) (z : Sound L W) where
  -- who is in line runs; where all of them run on, the lines stay
  runs_on : (X : Window) → ((c : ℕ) → running W c ≡ true → running X c ≡ true) → W.line ≡ keep (λ r. running X r.change) W.line
  runs_on X f = sym (keep_all (waiter_sound W.entries (running W)) (λ r. running X r.change) (λ r h. f r.change (waiter_parts W.entries (running W) r h).0) W.line z.line)

  -- no lock: the ones that stop running leave
  stops : (X : Window) (s : Set) → ((c : ℕ) → running W c ≡ true → not (s c) ≡ running X c) → line_left s W.line ≡ keep (λ r. running X r.change) W.line
  unfolding line_left stays_in_line
  stops X s f = keep_same (stays_in_line s) (λ r. running X r.change) (waiter_sound W.entries (running W)) (λ r h. f r.change (waiter_parts W.entries (running W) r h).0) W.line z.line

  -- a call that is no lock
  passes : (x : Call) (a : ℕ) (X : Window) → ((c e : ℕ) → is_locking c e (action_of x) ≡ false) → X.line ≡ keep (λ r. running X r.change) W.line → Shift W x a X
  passes x a X f q = goes (λ c e. (rw (f c e) (and-false (eqb a 0)), rw (f c e) (and-false (eqb a 20)))) q

  -- statuses and lines stay
  stays : (x : Call) (a : ℕ) (X : Window) → ((c e : ℕ) → is_locking c e (action_of x) ≡ false) → X.status ≡ W.status → X.line ≡ W.line → Shift W x a X
  unfolding running
  stays x a X f s q = passes x a X f (q ∙ runs_on X (λ c h. rw s h))

  -- a change that runs stops, as all of a set do that ends
  complete_stops : (c d : ℕ) → running W d ≡ true → not (only c d) ≡ running (complete_change W c) d
  unfolding only running complete_change leave with_status with_line put
  complete_stops c d h = go (eqb d c)
    where
      go : (b : Bool) → not b ≡ eqb (cond b 3 (W.status d)) 2
      go true = refl
      go false = sym h

  end_stops : (how : ℕ) (s : Set) (Y : Window) → Y.status ≡ W.status → eqb how 2 ≡ false → (d : ℕ) → running W d ≡ true → not (s d) ≡ running (end_all how s Y) d
  unfolding running end_all put_all
  end_stops how s Y q n d h = rw q (go (s d))
    where
      go : (b : Bool) → not b ≡ eqb (cond b how (W.status d)) 2
      go true = sym n
      go false = sym h

  end_line : (how : ℕ) (s : Set) (Y : Window) → Y.status ≡ W.status → Y.line ≡ W.line → eqb how 2 ≡ false → (end_all how s Y).line ≡ keep (λ r. running (end_all how s Y) r.change) W.line
  unfolding end_all
  end_line how s Y q l n = ap (line_left s) l ∙ stops (end_all how s Y) s (end_stops how s Y q n)

  lock_shifts : (c e m : ℕ) → Passed (checks L W (Lock c e m)) → Shifts W (Lock c e m) (effect W (Lock c e m))
  unfolding checks ◌if◌ effect lock_entry done blocked leave wait put_held with_held with_line
  lock_shifts c e m p = go (in_the_way W c e m) (covers (W.held e c) m) (lock_granted W c e m)
    where
      go : (i : ℕ) (a b : Bool) → Shifts W (Lock c e m) (cond a (done 0 (leave W c)) (cond b (done 0 (leave (put_held W e c m) c)) (blocked i (wait W c e m))))
      go i true b = leaves c e m refl refl p.1.1.1.1.0 refl refl
      go i false true = leaves c e m refl refl p.1.1.1.1.0 refl refl
      go i false false = enters c e m refl refl p.1.1.1.1.0 (not-false _ p.1.1.1.0) refl refl

  commit_shifts : (c : ℕ) → Shifts W (Commit c) (effect W (Commit c))
  unfolding effect commit_change commit_group done unchanged action_of is_locking
  commit_shifts c = go _ _ (eqb (W.status c) 4) (eqb (W.status c) 5) (any_below (suc W.given) (commit_blockers W (group_of W c)))
    where
      go : (i j : ℕ) (a b d : Bool) → Shifts W (Commit c) (cond a (done 0 W) (cond b (unchanged 21 0 W) (cond d (unchanged 20 i W) (done j (end_all 4 (group_of W c) W)))))
      go i j true b d = stays (Commit c) 0 W (λ x e. refl) refl refl
      go i j false true d = stays (Commit c) 21 W (λ x e. refl) refl refl
      go i j false false true = stays (Commit c) 20 W (λ x e. refl) refl refl
      go i j false false false = passes (Commit c) 0 (end_all 4 (group_of W c) W) (λ x e. refl) (end_line 4 (group_of W c) W refl refl refl)

  abort_shifts : (c : ℕ) → Shifts W (Abort c) (effect W (Abort c))
  unfolding effect abort_change abort_all withdraw done unchanged action_of is_locking with_value with_log
  abort_shifts c = go _ (eqb (W.status c) 5) (eqb (W.status c) 4)
    where
      go : (i : ℕ) (a b : Bool) → Shifts W (Abort c) (cond a (done 0 W) (cond b (unchanged 21 0 W) (done i (end_all 5 (end_set W c) (withdraw (end_set W c) W)))))
      go i true b = stays (Abort c) 0 W (λ x e. refl) refl refl
      go i false true = stays (Abort c) 21 W (λ x e. refl) refl refl
      go i false false = passes (Abort c) 0 (end_all 5 (end_set W c) (withdraw (end_set W c) W)) (λ x e. refl) (end_line 5 (end_set W c) (withdraw (end_set W c) W) refl refl refl)

  shifts : (x : Call) → Passed (checks L W x) → Shifts W x (effect W x)
  unfolding effect action_of is_opening is_locking done add_change write_entry hand_over with_status with_value with_log with_permits with_ties complete_change leave with_line
  shifts (Open n) p = opens refl refl
  shifts (Initiate q) p = passes (Initiate q) 0 _ (λ x e. refl) (runs_on _ (run_start L W q z))
  shifts (Begin c) p = passes (Begin c) 0 _ (λ x e. refl) (runs_on _ (run_begin W c))
  shifts (Complete c) p = passes (Complete c) 0 _ (λ x e. refl) (stops _ (only c) (complete_stops c))
  shifts (Lock c e m) p = lock_shifts c e m p
  shifts (Read c e) p = stays (Read c e) 0 W (λ x y. refl) refl refl
  shifts (Write c e v) p = stays (Write c e v) 0 _ (λ x y. refl) refl refl
  shifts (Permit g t e o) p = stays (Permit g t e o) 0 _ (λ x y. refl) refl refl
  shifts (Delegate f t e) p = stays (Delegate f t e) 0 _ (λ x y. refl) refl refl
  shifts (Depend k l f) p = stays (Depend k l f) 0 _ (λ x y. refl) refl refl
  shifts (Commit c) p = commit_shifts c
  shifts (Abort c) p = abort_shifts c
  shifts (Status c) p = stays (Status c) 0 W (λ x y. refl) refl refl
  shifts (Parent c) p = stays (Parent c) 0 W (λ x y. refl) refl refl
  shifts (Value e) p = stays (Value e) 0 W (λ x y. refl) refl refl

  -- refused: neither 0 nor 20
  refused_shifts : (x : Call) (a : ℕ) → a ≢ 0 → a ≢ 20 → Shift W x a W
  refused_shifts x a n o = goes (λ c e. (rw (ne_eqb a 0 n), rw (ne_eqb a 20 o))) (runs_on W (λ c h. h))

  pub shift : (x : Call) → Shifts W x (step L W x)
  unfolding step settle unchanged
  shift x = go (first_failed (checks L W x)) (λ e. shifts x (passed (checks L W x) (codes L W x) e)) (refusal_low L W x)
    where
      go : (a : ℕ) → (a ≡ 0 → Shifts W x (effect W x)) → a < 20 → Shifts W x (settle a W (effect W x))
      go zero f h = f refl
      go (suc a) f h = refused_shifts x (suc a) (λ e. omega arith) (λ e. omega arith)
