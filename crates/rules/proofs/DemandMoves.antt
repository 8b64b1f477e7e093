-- What a call on a sound window comes to, seen from the words of a list of calls. Assumes nothing.
use mathlib.Core.Path.{◌≡◌, refl, sym, ◌∙◌}
use mathlib.Core.Bool.{Bool, true, false, not, cond, ◌&&◌, ◌||◌, false≢true, true≢false}
use mathlib.Core.List.{List}
use Prim.Native.Nat.{ℕ, zero, suc, ◌≤◌, ◌<◌, max}
use native.Mathlib.Omega.{arith}
use lib.Dec.{leb, ltb, eqb, eqb-suc-zero}
use borrow.Author.Tests.{not-false, leb-true, leb-false}
use Rattle.rules.specs.Base.{put, put2, any_below, outside}
use Rattle.rules.specs.Sets.{only}
use Rattle.rules.specs.Window.{Limits, LogRecord, LineRecord, Window, fresh, with_value, with_status, with_held, with_log, with_permits, with_ties, with_line, is_ended, is_live, no_change, live, running}
use Rattle.rules.specs.Locks.{make_permit, add_permit}
use Rattle.rules.specs.Ties.{make_tie, add_tie, group_of, end_set}
use Rattle.rules.specs.Line.{line_left}
use Rattle.rules.specs.Calls.{Call, Open, Initiate, Begin, Complete, Lock, Read, Write, Permit, Delegate, Depend, Commit, Abort, Status, Parent, Value, Outcome, done, unchanged, blocked}
use Rattle.rules.specs.Effects.{effect, leave, complete_change, covers, lock_granted, in_the_way, wait, lock_entry, write_entry, entries_named, hand_over, commit_change, abort_change, add_change, put_held, commit_blockers, commit_group, abort_all, end_all, withdraw}
use Rattle.rules.specs.Refusals.{step, settle, checks, first_failed, ◌if◌}
use Rattle.rules.specs.Events.{Action, opening, initiating, nothing, locking, permitting, delegating, tying, action_of}
use Rattle.rules.proofs.BaseLaws.{and_both, and_left, and_right, Same, same, other, same?}
use Rattle.rules.proofs.SoundParts.{Sound, live_at, live_of}
use Rattle.rules.proofs.SoundStep.{Passed, passed, codes}

-- what a status call gives
unfoldable pub shown_status : Window → ℕ → ℕ
shown_status W c = cond (no_change W c) 0 (W.status c)

pub status-shown : (L : Limits) (W : Window) (c : ℕ) → (step L W (Status c)).number ≡ shown_status W c
unfolding step checks first_failed settle effect ◌if◌ done unchanged shown_status
status-shown L W c = go (no_change W c)
  where
    go : (b : Bool) → (settle (cond b 3 0) W (done (W.status c) W)).number ≡ cond b 0 (W.status c)
    go true = refl
    go false = refl

-- nobody ends, and locks, permits and ties stay
pub record Calm (W X : Window) : Type 0 where
  pub stay : (c : ℕ) → is_ended (shown_status W c) ≡ true → shown_status X c ≡ shown_status W c
  pub fewer : (c : ℕ) → is_ended (shown_status X c) ≡ true → is_ended (shown_status W c) ≡ true
  pub on : (c : ℕ) → live W c ≡ true → live X c ≡ true
  pub given : X.given ≡ W.given
  pub held : X.held ≡ W.held
  pub permits : X.permits ≡ W.permits
  pub ties : X.ties ≡ W.ties

-- what a call comes to: its action where it is answered 0, its second number and the window that it leaves
pub data Move (W : Window) : Action → ℕ → Window → Type 0 where
  opened : (n k : ℕ) → Move W opening k (fresh n)
  started : (p : ℕ) → Move W initiating (suc W.given) (add_change W p)
  calm : (k : ℕ) (X : Window) → Calm W X → Move W nothing k X
  locked : (c e m k : ℕ) (h : ℕ → ℕ → ℕ) (l : List LineRecord) → ((x d : ℕ) → h x d ≡ put2 W.held e c (max (W.held e c) m) x d)
      → Move W (locking c e m) k (with_line (with_held W h) l)
  granted : (g t e o k : ℕ) → Move W (permitting g t e o) k (with_permits W (add_permit (make_permit g t e o) W.permits))
  handed : (f t e k : ℕ) → Move W (delegating f t e) k (hand_over W f t (entries_named e))
  depended : (i l f k : ℕ) → live W l ≡ true → live W f ≡ true → Move W (tying i l f) k (with_ties W (add_tie (make_tie i l f) W.ties))
  committed : (c k : ℕ) → live W c ≡ true → any_below (suc W.given) (commit_blockers W (group_of W c)) ≡ false → Move W nothing k (end_all 4 (group_of W c) W)
  aborted : (c k : ℕ) → live W c ≡ true → Move W nothing k (end_all 5 (end_set W c) (withdraw (end_set W c) W))

-- values, the log and the lines play no part
calm_line : (W : Window) (l : List LineRecord) → Calm W (with_line W l)
unfolding with_line shown_status no_change live
calm_line W l = record { stay = λ c e. refl; fewer = λ c e. e; on = λ c e. e; given = refl; held = refl; permits = refl; ties = refl }

calm_values : (W : Window) (v : ℕ → ℕ) (l : List LogRecord) → Calm W (with_log (with_value W v) l)
unfolding with_log with_value shown_status no_change live
calm_values W v l = record { stay = λ c e. refl; fewer = λ c e. e; on = λ c e. e; given = refl; held = refl; permits = refl; ties = refl }

pub not_ended : (x : ℕ) → is_live x ≡ true → is_ended x ≡ false
unfolding outside is_ended
not_ended x h = go (same? x 4) (same? x 5)
  where
    go : {a b : Bool} → Same x 4 a → Same x 5 b → a || b ≡ false
    go (same q) r = absurd (false≢true (rw q at h))
    go (other n) (same q) = absurd (false≢true (rw q at h))
    go (other n) (other m) = refl

-- the statuses of no change, a committed and an aborted one
pub ended_0 : is_ended 0 ≡ false
unfolding is_ended
ended_0 = refl

pub ended_4 : is_ended 4 ≡ true
unfolding is_ended
ended_4 = refl

pub ended_5 : is_ended 5 ≡ true
unfolding is_ended
ended_5 = refl

pub live-status : (W : Window) (c : ℕ) → live W c ≡ true → is_live (W.status c) ≡ true
unfolding live
live-status W c h = and_right (ltb c (suc W.given)) _ h

pub live_unended : (W : Window) (c : ℕ) → live W c ≡ true → is_ended (shown_status W c) ≡ false
unfolding shown_status is_ended
live_unended W c h = go (no_change W c)
  where
    go : (b : Bool) → is_ended (cond b 0 (W.status c)) ≡ false
    go true = ended_0
    go false = not_ended (W.status c) (live-status W c h)

pub live_not : (W : Window) (c : ℕ) → live W c ≡ true → is_ended (shown_status W c) ≡ true → ⊥
live_not W c l h = true≢false (sym h ∙ live_unended W c l)

-- a status that stays live
calm_status : (W : Window) (c s : ℕ) (l : List LineRecord) → live W c ≡ true → is_live s ≡ true → Calm W (with_status (with_line W l) (put W.status c s))
unfolding with_status with_line shown_status live no_change put is_ended
calm_status W c s l lc ls = record {
  stay = λ d. stays d (same? d c);
  fewer = λ d. few d (same? d c);
  on = λ d. ons d (same? d c);
  given = refl;
  held = refl;
  permits = refl;
  ties = refl;
}
  where
    stays : (d : ℕ) {b : Bool} → Same d c b → is_ended (shown_status W d) ≡ true → cond (no_change W d) 0 (cond b s (W.status d)) ≡ shown_status W d
    stays d (same q) h = absurd (live_not W d (rw q lc) h)
    stays d (other n) h = refl

    none : (b : Bool) → is_ended (cond b 0 s) ≡ true → ⊥
    none true h = false≢true h
    none false h = false≢true (sym (not_ended s ls) ∙ h)

    few : (d : ℕ) {b : Bool} → Same d c b → is_ended (cond (no_change W d) 0 (cond b s (W.status d))) ≡ true → is_ended (shown_status W d) ≡ true
    few d (same q) h = absurd (none (no_change W d) h)
    few d (other n) h = h

    ons : (d : ℕ) {b : Bool} → Same d c b → live W d ≡ true → ltb d (suc W.given) && not (outside 1 3 (cond b s (W.status d))) ≡ true
    ons d (same q) h = and_both (ltb d (suc W.given)) _ (and_left (ltb d (suc W.given)) _ h) ls
    ons d (other n) h = h

-- the outcome of a call whose action is d, if it is answered 0
abbrev Moved : Window → Action → Outcome → Type 0
Moved W d o = Move W (cond (eqb o.answer 0) d nothing) o.number o.after

module _ (L : Limits) (W : Window) (z : Sound L W) where
  idle : (k : ℕ) → Move W nothing k W
  unfolding with_log with_value
  idle k = calm k W (calm_values W W.value W.log)

  lock_moves : (c e m : ℕ) → Moved W (locking c e m) (effect W (Lock c e m))
  unfolding effect lock_entry covers done blocked leave wait put_held with_held with_line put2
  lock_moves c e m = go (in_the_way W c e m) (leb m (W.held e c)) refl (lock_granted W c e m)
    where
      keeps : leb m (W.held e c) ≡ true → (x d : ℕ) → W.held x d ≡ put2 W.held e c (max (W.held e c) m) x d
      keeps q x d = same_place (same? x e) (same? d c)
        where
          same_place : {a b : Bool} → Same x e a → Same d c b → W.held x d ≡ cond (a && b) (max (W.held e c) m) (W.held x d)
          same_place (same i) (same j) = let h : m ≤ W.held e c = leb-true m (W.held e c) q in rw (i, j) (omega arith)
          same_place (same i) (other j) = refl
          same_place (other i) b = refl

      puts : leb m (W.held e c) ≡ false → (x d : ℕ) → put2 W.held e c m x d ≡ put2 W.held e c (max (W.held e c) m) x d
      puts q x d = let h : W.held e c < m = leb-false m (W.held e c) q in let r : max (W.held e c) m ≡ m = omega arith in rw r

      go : (i : ℕ) (b : Bool) → leb m (W.held e c) ≡ b → (g : Bool) → Moved W (locking c e m) (cond b (done 0 (leave W c)) (cond g (done 0 (leave (put_held W e c m) c)) (blocked i (wait W c e m))))
      go i true q g = locked c e m 0 W.held (line_left (only c) W.line) (keeps q)
      go i false q true = locked c e m 0 (put2 W.held e c m) (line_left (only c) W.line) (puts q)
      go i false q false = calm i _ (calm_line W _)

  commit_moves : (c : ℕ) → no_change W c ≡ false → Moved W nothing (effect W (Commit c))
  unfolding effect commit_change done unchanged commit_group
  commit_moves c h = go _ _ (eqb (W.status c) 4) refl (eqb (W.status c) 5) refl (any_below (suc W.given) (commit_blockers W (group_of W c))) refl
    where
      go : (i j : ℕ) (a : Bool) → eqb (W.status c) 4 ≡ a → (b : Bool) → eqb (W.status c) 5 ≡ b → (d : Bool) → any_below (suc W.given) (commit_blockers W (group_of W c)) ≡ d
          → Moved W nothing (cond a (done 0 W) (cond b (unchanged 21 0 W) (cond d (unchanged 20 i W) (done j (end_all 4 (group_of W c) W)))))
      go i j true p b q d r = idle 0
      go i j false p true q d r = idle 0
      go i j false p false q true r = idle i
      go i j false p false q false r = committed c j (live_of L W z c h p q) r

  abort_moves : (c : ℕ) → no_change W c ≡ false → Moved W nothing (effect W (Abort c))
  unfolding effect abort_change done unchanged abort_all
  abort_moves c h = go _ (eqb (W.status c) 5) refl (eqb (W.status c) 4) refl
    where
      go : (i : ℕ) (a : Bool) → eqb (W.status c) 5 ≡ a → (b : Bool) → eqb (W.status c) 4 ≡ b
          → Moved W nothing (cond a (done 0 W) (cond b (unchanged 21 0 W) (done i (end_all 5 (end_set W c) (withdraw (end_set W c) W)))))
      go i true p b q = idle 0
      go i false p true q = idle 0
      go i false p false q = aborted c i (live_of L W z c h q p)

  does : (c : Call) → Passed (checks L W c) → Moved W (action_of c) (effect W c)
  unfolding effect action_of checks ◌if◌ done running write_entry complete_change leave with_status with_line outside
  does (Open n) p = opened n 0
  does (Initiate q) p = started q
  does (Begin c) p = calm 0 _ (calm_status W c 2 W.line (live_at W c 1 p.0 (not-false _ p.1.0) refl) refl)
  does (Complete c) p = calm 0 _ (calm_status W c 3 (line_left (only c) W.line) (live_at W c 2 p.0 (not-false _ p.1.0) refl) refl)
  does (Lock c e m) p = lock_moves c e m
  does (Read c e) p = idle _
  does (Write c e v) p = calm 0 _ (calm_values W _ _)
  does (Permit g t e o) p = granted g t e o 0
  does (Delegate f t e) p = handed f t e 0
  does (Depend k l f) p = depended k l f 0 (and_left (live W l) (live W f) (not-false _ p.1.1.1.1.0)) (and_right (live W l) (live W f) (not-false _ p.1.1.1.1.0))
  does (Commit c) p = commit_moves c p.0
  does (Abort c) p = abort_moves c p.0
  does (Status c) p = idle _
  does (Parent c) p = idle _
  does (Value e) p = idle _

  pub move : (c : Call) → Moved W (action_of c) (step L W c)
  unfolding step settle unchanged
  move c = go (first_failed (checks L W c)) (λ e. does c (passed (checks L W c) (codes L W c) e))
    where
      go : (a : ℕ) → (a ≡ 0 → Moved W (action_of c) (effect W c)) → Moved W (action_of c) (settle a W (effect W c))
      go zero f = f refl
      go (suc a) f = rw (eqb-suc-zero a) (idle 0)
