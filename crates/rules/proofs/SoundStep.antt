-- Every call keeps a window sound, whatever it answers. Assumes nothing.
use mathlib.Core.Path.{◌≡◌, refl, ap}
use mathlib.Core.Bool.{Bool, true, false, not, cond, ◌&&◌, ◌||◌, false≢true}
use mathlib.Core.List.{List, [], ◌∷◌}
use Prim.Native.Nat.{ℕ, zero, suc, ◌<◌, ◌^◌}
use native.Mathlib.Omega.{arith}
use lib.Dec.{leb, ltb, eqb}
use borrow.Author.Tests.{not-false, eqb-true, ltb-false, leb-false, lt-ltb, le-leb}
use Rattle.rules.specs.Base.{put, exceeds, all, any_below, outside}
use Rattle.rules.specs.Window.{Limits, Window, fresh, with_value, with_status, with_line, live, running, no_change, no_entry, with_log}
use Rattle.rules.specs.Locks.{make_permit}
use Rattle.rules.specs.Ties.{grouped, falling, make_tie, group_of, end_set}
use Rattle.rules.specs.Sound.{sound, record_sound, permit_sound}
use Rattle.rules.specs.Calls.{Call, Open, Initiate, Begin, Complete, Lock, Read, Write, Permit, Delegate, Depend, Commit, Abort, Status, Parent, Value, arguments, fits, Outcome, done, unchanged, blocked}
use Rattle.rules.specs.Effects.{effect, leave, complete_change, covers, put_held, lock_granted, lock_entry, write_entry, entries_named, commit_change, abort_change, commit_blockers, commit_group, withdraw, abort_all, add_record}
use Rattle.rules.specs.Refusals.{Check, first_failed, ◌if◌, checks, step, settle}
use Rattle.rules.proofs.BaseLaws.{and_left, and_right, or_none}
use Rattle.rules.proofs.LineLaws.{waiter_more}
use Rattle.rules.proofs.ListLaws.{all_weaken}
use Rattle.rules.proofs.RuleLaws.{numbered, done_unrefused}
use Rattle.rules.proofs.SetLaws.{reach-to}
use Rattle.rules.proofs.SoundDelegate.{hand_sound}
use Rattle.rules.proofs.SoundDepend.{make_sound, depend_sound}
use Rattle.rules.proofs.SoundEnd.{end_sound}
use Rattle.rules.proofs.SoundLine.{leave-sound, wait-sound, run_begin, complete_line}
use Rattle.rules.proofs.SoundLock.{granted_free, lock_sound}
use Rattle.rules.proofs.SoundParts.{Blank, Sound, sound-parts, parts-sound, sound_blank, value_most, inside_of, live_at, live_of, ends-live}
use Rattle.rules.proofs.SoundPermit.{permit_sound_lem}
use Rattle.rules.proofs.SoundPlain.{fresh-sound, value-put, value_sound_lem, status_sound_lem, start-sound, withdraw-sound, record_sound_lem}
use Rattle.rules.proofs.TieLaws.{grouped-ends, falling-ends}

-- no check of a list fails
abbrev pub Passed : List Check → Type 0
Passed [] = Unit {0}
Passed (k ∷ l) = (k.fails ≡ false) × Passed l

pub passed : (l : List Check) → all (λ k. ltb 0 k.code) l ≡ true → first_failed l ≡ 0 → Passed l
unfolding all first_failed
passed [] c e = tt
passed (k ∷ l) c e = go k.fails refl (and_left (ltb 0 k.code) (all (λ j. ltb 0 j.code) l) c) e (passed l (and_right (ltb 0 k.code) (all (λ j. ltb 0 j.code) l) c))
  where
    go : (b : Bool) → k.fails ≡ b → ltb 0 k.code ≡ true → cond b k.code (first_failed l) ≡ 0 → (first_failed l ≡ 0 → Passed l) → (k.fails ≡ false) × Passed l
    go true f h q r = absurd (false≢true (rw q at h))
    go false f h q r = (f, r q)

-- no refusal is numbered 0
pub codes : (L : Limits) (W : Window) (c : Call) → all (λ k. ltb 0 k.code) (checks L W c) ≡ true
codes L W c = all_weaken (λ k. ltb 0 k.code && ltb k.code 20) (λ k. ltb 0 k.code) (λ k h. and_left (ltb 0 k.code) _ h) (checks L W c) (numbered L W c)

-- open asks nothing of the window
open_sound : (L : Limits) (W : Window) (n : ℕ) → Passed (checks L W (Open n)) → Sound L (effect W (Open n)).after
unfolding checks ◌if◌ effect done
open_sound L W n p = let o = or_none (ltb n 1) (exceeds n L.entries) p.0 in fresh-sound L n (lt-ltb 0 n (omega (arith, ltb-false n 1 o.0))) (ap not o.1)

-- whichever way a choice goes
either : (L : Limits) (b : Bool) (x y : Outcome) → (b ≡ true → Sound L x.after) → (b ≡ false → Sound L y.after) → Sound L (cond b x y).after
either L true x y f g = f refl
either L false x y f g = g refl

-- an entry that there is lies below the bound
entry_of : (W : Window) (e : ℕ) → no_entry W e ≡ false → ltb e W.entries ≡ true
unfolding no_entry
entry_of W e h = lt-ltb e W.entries (leb-false W.entries e h)

module _ (L : Limits) (W : Window) (k : Sound L W) where
  -- the sets that commit and abort end are of live changes
  pub group_live : (c : ℕ) → live W c ≡ true → (d : ℕ) → group_of W c d ≡ true → live W d ≡ true
  unfolding group_of
  group_live c h = reach-to (suc W.given) (grouped W.ties) (λ d. live W d ≡ true) (λ d e b a r. (grouped-ends (live W) W.ties (ends-live L W k) d e r).1) c h

  pub fall_live : (c : ℕ) → live W c ≡ true → (d : ℕ) → end_set W c d ≡ true → live W d ≡ true
  unfolding end_set
  fall_live c h = reach-to (suc W.given) (falling W.ties) (λ d. live W d ≡ true) (λ d e b a r. (falling-ends (live W) W.ties (ends-live L W k) d e r).1) c h

  begins : (c : ℕ) → Passed (checks L W (Begin c)) → Sound L (effect W (Begin c)).after
  unfolding checks ◌if◌ effect done running outside
  begins c p = status_sound_lem L W c 2 p.0 (ap (outside 1 3) (eqb-true (W.status c) 1 (not-false _ p.1.0))) refl (all_weaken _ _ (waiter_more W.entries (running W) _ (run_begin W c)) W.line k.line) k

  completes : (c : ℕ) → Passed (checks L W (Complete c)) → Sound L (effect W (Complete c)).after
  unfolding checks ◌if◌ effect done running outside complete_change leave with_line with_status no_change
  completes c p = status_sound_lem L (leave W c) c 3 p.0 (ap (outside 1 3) (eqb-true (W.status c) 2 (not-false _ p.1.0))) refl (complete_line L W c k) (leave-sound L W k c)

  locks : (c e m : ℕ) → Passed (checks L W (Lock c e m)) → Sound L (effect W (Lock c e m)).after
  unfolding checks ◌if◌ effect lock_entry covers done blocked running outside
  locks c e m p = either L (leb m (W.held e c)) _ _ (λ h. leave-sound L W k c) (λ short. either L (lock_granted W c e m) _ _
      (λ free. leave-sound L (put_held W e c m) (lock_sound L W c e m k (le-leb m 2 (inside_of 1 2 m p.1.1.0).1) (entry_of W e p.1.0) (live_at W c 2 p.0 (not-false _ p.1.1.1.0) refl) short (granted_free W c e m free)) c)
      (λ h. wait-sound L W k c e m (not-false _ p.1.1.1.0) (entry_of W e p.1.0) p.1.1.0))

  writes : (c e v : ℕ) → fits (Write c e v) ≡ true → Passed (checks L W (Write c e v)) → Sound L (effect W (Write c e v)).after
  unfolding fits arguments all checks ◌if◌ effect write_entry add_record done running with_value live record_sound outside
  writes c e v a p =
      let x : ltb v (2 ^ 32) ≡ true = and_left (ltb v (2 ^ 32)) true (and_right (ltb e (2 ^ 32)) _ (and_right (ltb c (2 ^ 32)) _ a)) in
      let r : record_sound W.entries (live W) W.held (record { owner = c; entry = e; before = W.value e }) ≡ true =
      rw (live_at W c 2 p.0 (not-false _ p.1.1.0) refl, entry_of W e p.1.0, value_most L W k e, not-false (eqb (W.held e c) 2) p.1.1.1.0) in
      record_sound_lem L (with_value W (put W.value e v)) _ r (ap not p.1.1.1.1.0) (value_sound_lem L W (put W.value e v) (value-put W.entries W.value e v (entry_of W e p.1.0) x k.values) k)

  grants : (g t e o : ℕ) → Passed (checks L W (Permit g t e o)) → Sound L (effect W (Permit g t e o)).after
  unfolding checks ◌if◌ effect done make_permit permit_sound
  grants g t e o p = permit_sound_lem L W (make_permit g t e o)
      (rw (not-false (live W g) p.1.1.1.1.1.0, not-false (eqb t 0 || live W t) p.1.1.1.1.1.1.0, entry_of W e p.1.1.0, p.1.1.1.0, p.1.1.1.1.0)) (ap not p.1.1.1.1.1.1.1.0) k

  hands : (f t e : ℕ) → Passed (checks L W (Delegate f t e)) → Sound L (effect W (Delegate f t e)).after
  unfolding checks ◌if◌ effect done
  hands f t e p = hand_sound L W f t (entries_named e) k (and_right (live W f) (live W t) (not-false _ p.1.1.1.1.0)) (not-false _ p.1.1.1.1.1.0)

  depends : (r l f : ℕ) → Passed (checks L W (Depend r l f)) → Sound L (effect W (Depend r l f)).after
  unfolding checks ◌if◌ effect done
  depends r l f p = let h : live W l && live W f ≡ true = not-false _ p.1.1.1.1.0 in
      depend_sound L W (make_tie r l f) (make_sound (live W) r l f p.1.1.0 p.1.1.1.0 (and_left (live W l) (live W f) h) (and_right (live W l) (live W f) h))
      (not-false _ p.1.1.1.1.1.0) (ap not p.1.1.1.1.1.1.0) k

  commits : (c : ℕ) → Passed (checks L W (Commit c)) → Sound L (effect W (Commit c)).after
  unfolding checks ◌if◌ effect commit_change done unchanged commit_group outside
  commits c p = either L (eqb (W.status c) 4) _ _ (λ h. k) (λ h. either L (eqb (W.status c) 5) _ _ (λ q. k) (λ q. either L (any_below (suc W.given) (commit_blockers W (group_of W c))) _ _ (λ b. k)
      (λ b. end_sound L W 4 (group_of W c) refl refl (group_live c (live_of L W k c p.0 h q)) k)))

  aborts : (c : ℕ) → Passed (checks L W (Abort c)) → Sound L (effect W (Abort c)).after
  unfolding checks ◌if◌ effect abort_change done unchanged abort_all withdraw outside with_value with_log live
  aborts c p = either L (eqb (W.status c) 5) _ _ (λ h. k) (λ h. either L (eqb (W.status c) 4) _ _ (λ q. k)
      (λ q. end_sound L (withdraw (end_set W c) W) 5 (end_set W c) refl refl (fall_live c (live_of L W k c p.0 q h))
      (withdraw-sound L W (end_set W c) k)))

  effect-sound : (c : Call) → fits c ≡ true → Passed (checks L W c) → Sound L (effect W c).after
  unfolding effect done checks ◌if◌ running outside
  effect-sound (Open n) a p = open_sound L W n p
  effect-sound (Initiate q) a p = start-sound L W q (ap not p.1.1.0) (ltb-false W.given q p.0) k
  effect-sound (Begin c) a p = begins c p
  effect-sound (Complete c) a p = completes c p
  effect-sound (Lock c e m) a p = locks c e m p
  effect-sound (Read c e) a p = k
  effect-sound (Write c e v) a p = writes c e v a p
  effect-sound (Permit g t e o) a p = grants g t e o p
  effect-sound (Delegate f t e) a p = hands f t e p
  effect-sound (Depend r l f) a p = depends r l f p
  effect-sound (Commit c) a p = commits c p
  effect-sound (Abort c) a p = aborts c p
  effect-sound (Status c) a p = k
  effect-sound (Parent c) a p = k
  effect-sound (Value e) a p = k

-- what is not refused has passed; what is refused leaves the window
settled : (L : Limits) (W : Window) (c : Call) → (Passed (checks L W c) → Sound L (effect W c).after) → (0 < first_failed (checks L W c) → Sound L W) → Sound L (step L W c).after
unfolding step settle unchanged
settled L W c f g = go (first_failed (checks L W c)) refl
  where
    go : (a : ℕ) → first_failed (checks L W c) ≡ a → Sound L (settle a W (effect W c)).after
    go zero e = f (passed (checks L W c) (codes L W c) e)
    go (suc a) e = g (omega arith)

pub step-sound : (L : Limits) (W : Window) (c : Call) → fits c ≡ true → Sound L W → Sound L (step L W c).after
step-sound L W c a k = settled L W c (effect-sound L W k c a) (λ h. k)

-- the same of the definition: with what lies beyond the largest figures, which bytes cannot hold
pub step_keeps : (L : Limits) (W : Window) (c : Call) → fits c ≡ true → sound L W ≡ true → Blank L W → (sound L (step L W c).after ≡ true) × Blank L (step L W c).after
step_keeps L W c a s b = let k = step-sound L W c a (sound-parts L W s b) in (parts-sound L (step L W c).after k, sound_blank L (step L W c).after k)

-- a refusal is the answer
pub settle-answer : (a : ℕ) (W : Window) (o : Outcome) → 0 < a → (settle a W o).answer ≡ a
unfolding settle unchanged
settle-answer zero W o h = absurd (omega arith)
settle-answer (suc a) W o h = refl

-- an open that is not refused makes a sound window of any
pub opened_sound : (L : Limits) (W : Window) (n : ℕ) → (step L W (Open n)).answer ≡ 0 → Sound L (step L W (Open n)).after
unfolding step
opened_sound L W n h = settled L W (Open n) (open_sound L W n) (λ l. absurd (omega (arith, settle-answer (first_failed (checks L W (Open n))) W (effect W (Open n)) l)))

pub opened_fresh : (L : Limits) (W : Window) (n : ℕ) → (step L W (Open n)).answer ≡ 0 → (step L W (Open n)).after ≡ fresh n
unfolding effect done
opened_fresh L W n h = ap (λ o. o.after) (done_unrefused L W (Open n) h).1
