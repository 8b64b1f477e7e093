-- Each refusal of each call in words: a call is answered with a refusal's number exactly when what it says holds and none before it does. Assumes nothing.
use mathlib.Core.Path.{◌≡◌, refl, sym, ◌∙◌, ap}
use mathlib.Core.Logic.{◌⊎◌, inl, inr, ◌↔◌, ◌≢◌}
use mathlib.Core.Bool.{Bool, true, false, not, cond, ◌&&◌, ◌||◌, true≢false}
use mathlib.Core.List.{List, [], ◌∷◌, Memᴰ}
use Prim.Native.Nat.{ℕ, zero, suc, ◌<◌, ◌≤◌}
use native.Mathlib.Omega.{arith}
use lib.Dec.{ltb, eqb}
use lib.ListN.{length}
use borrow.Author.Tests.{not-true, not-false, eqb-true, eqb-false, eq-eqb, ne_eqb, ltb-true, lt-ltb}
use Rattle.rules.specs.Base.{outside, all, insert}
use Rattle.rules.specs.Window.{Limits, LineRecord, Window, tie_key, with_ties, no_change, no_entry, live, running}
use Rattle.rules.specs.Locks.{make_permit, add_permit, clashes_permitted}
use Rattle.rules.specs.Ties.{make_tie, add_tie, acyclic}
use Rattle.rules.specs.Line.{waits_elsewhere}
use Rattle.rules.specs.Sound.{tie_sound}
use Rattle.rules.specs.Calls.{Call, Open, Initiate, Begin, Complete, Lock, Read, Write, Permit, Delegate, Depend, Commit, Abort, Status, Parent, Value, Outcome, done, unchanged, blocked}
use Rattle.rules.specs.Effects.{every, entries_named, hand_over, effect, lock_entry, commit_change, commit_group, abort_change, abort_all}
use Rattle.rules.specs.Refusals.{first_failed, ◌if◌, checks, settle, step}
use Rattle.rules.proofs.BaseLaws.{and_both, and_left, and_right, no_true, all_below-fails}
use Rattle.rules.proofs.ListLaws.{any_find, any_member}
use Rattle.rules.proofs.PairLaws.{pair_permitted, entry_permitted, by_pairs}
use Rattle.rules.proofs.PathLaws.{Arrows, cyclic_paths}
use Rattle.rules.proofs.SaidLaws.{NoRefusal, Turned, merge, merged, merged_first, proper, Said, said_next, said_none, AnswerOf, turned}
use Rattle.rules.proofs.SortLaws.{all_insert}
use Rattle.rules.proofs.SoundDelegate.{hand_held}
use Rattle.rules.proofs.SoundDepend.{make_sound}
use Rattle.rules.proofs.SoundParts.{Sound, fits_all, ends_below_lem}
use Rattle.rules.proofs.TellLaws.{Tells, tells_equal, tells_less, tells_most, tells_above, tells_not, tells_or, tells_and, tells_nor, Outside, tells_outside}

-- "A change number is 0 or above the highest given"
unfoldable pub NoChange : Window → ℕ → Type 0
NoChange W c = (c ≡ 0) ⊎ (W.given < c)

-- a change that was given, with a status from 1 to 3
unfoldable pub Live : Window → ℕ → Type 0
Live W c = (c ≤ W.given) × (1 ≤ W.status c) × (W.status c ≤ 3)

-- "The change stands in another entry's line"
unfoldable pub InAnotherLine : Window → ℕ → ℕ → Type 0
InAnotherLine W c e = (r : LineRecord) × Memᴰ r W.line × (r.change ≡ c) × (r.entry ≢ e)

-- the refusals of each call, in checking order; 11 by the length of the table with the record in its place
unfoldable pub refusals : Limits → Window → Call → List (ℕ × Type 0)
refusals L W (Open n) = (2, Outside 1 L.entries n) ∷ []
refusals L W (Initiate p) = (3, W.given < p) ∷ (7, (p ≢ 0) × (W.status p ≢ 2)) ∷ (11, L.changes < suc W.given) ∷ []
refusals L W (Begin c) = (3, NoChange W c) ∷ (7, W.status c ≢ 1) ∷ []
refusals L W (Complete c) = (3, NoChange W c) ∷ (7, W.status c ≢ 2) ∷ []
refusals L W (Lock c e m) = (3, NoChange W c) ∷ (4, W.entries ≤ e) ∷ (5, Outside 1 2 m) ∷ (7, W.status c ≢ 2) ∷ (12, InAnotherLine W c e) ∷ []
refusals L W (Read c e) = (3, NoChange W c) ∷ (4, W.entries ≤ e) ∷ (7, W.status c ≢ 2) ∷ (8, W.held e c ≡ 0) ∷ []
refusals L W (Write c e v) = (3, NoChange W c) ∷ (4, W.entries ≤ e) ∷ (7, W.status c ≢ 2) ∷ (8, W.held e c ≢ 2) ∷ (11, L.records < suc (length W.log)) ∷ []
refusals L W (Permit g t e o) =
    (3, NoChange W g ⊎ (W.given < t)) ∷ (4, W.entries ≤ e) ∷ (5, Outside 1 3 o) ∷ (6, g ≡ t)
    ∷ (7, (Live W g → ⊥) ⊎ ((t ≢ 0) × (Live W t → ⊥))) ∷ (11, L.permits < length (add_permit (make_permit g t e o) W.permits)) ∷ []
refusals L W (Delegate f t e) =
    (3, NoChange W f ⊎ NoChange W t) ∷ (4, (e ≢ 65535) × (W.entries ≤ e)) ∷ (6, f ≡ t) ∷ (7, Live W f × Live W t → ⊥)
    ∷ (10, (x : ℕ) × (a : ℕ) × (b : ℕ) × (pair_permitted (hand_over W f t (entries_named e)) x a b ≡ false)) ∷ []
refusals L W (Depend k l f) =
    (3, NoChange W l ⊎ NoChange W f) ∷ (5, Outside 1 3 k) ∷ (6, l ≡ f) ∷ (7, Live W l × Live W f → ⊥)
    ∷ (9, (x : ℕ) × Arrows (add_tie (make_tie k l f) W.ties) x x) ∷ (11, L.ties < length (add_tie (make_tie k l f) W.ties)) ∷ []
refusals L W (Commit c) = (3, NoChange W c) ∷ []
refusals L W (Abort c) = (3, NoChange W c) ∷ []
refusals L W (Status c) = (3, NoChange W c) ∷ []
refusals L W (Parent c) = (3, NoChange W c) ∷ []
refusals L W (Value e) = (4, W.entries ≤ e) ∷ []

-- the tests of the window, and what they say
tells_none : (W : Window) (c : ℕ) → Tells (no_change W c) (NoChange W c)
unfolding no_change NoChange
tells_none W c = tells_or (eqb c 0) (ltb W.given c) _ _ (tells_equal c 0) (tells_less W.given c)

tells_entry : (W : Window) (e : ℕ) → Tells (no_entry W e) (W.entries ≤ e)
unfolding no_entry
tells_entry W e = tells_most W.entries e

tells_running : (W : Window) (c : ℕ) → Tells (running W c) (W.status c ≡ 2)
unfolding running
tells_running W c = tells_equal (W.status c) 2

tells_live : (W : Window) (c : ℕ) → Tells (live W c) (Live W c)
unfolding live Live outside
tells_live W c = (to, from)
  where
    within : not (ltb (W.status c) 1 || ltb 3 (W.status c)) ≡ true ↔ ((W.status c < 1 → ⊥) × (3 < W.status c → ⊥))
    within = tells_nor (ltb (W.status c) 1) (ltb 3 (W.status c)) _ _ (tells_less (W.status c) 1) (tells_less 3 (W.status c))

    to : ltb c (suc W.given) && not (ltb (W.status c) 1 || ltb 3 (W.status c)) ≡ true → (c ≤ W.given) × (1 ≤ W.status c) × (W.status c ≤ 3)
    to e = let i = within.0 (and_right (ltb c (suc W.given)) _ e) in
        (omega (arith, ltb-true c (suc W.given) (and_left (ltb c (suc W.given)) _ e)), omega (arith, i.0), omega (arith, i.1))

    from : (c ≤ W.given) × (1 ≤ W.status c) × (W.status c ≤ 3) → ltb c (suc W.given) && not (ltb (W.status c) 1 || ltb 3 (W.status c)) ≡ true
    from (a, b, d) = and_both (ltb c (suc W.given)) _ (lt-ltb c (suc W.given) (omega arith)) (within.1 (λ h. omega arith, λ h. omega arith))

tells_line : (W : Window) (c e : ℕ) → Tells (waits_elsewhere W.line c e) (InAnotherLine W c e)
unfolding waits_elsewhere InAnotherLine
tells_line W c e = (
  λ h. let m = any_find _ W.line h in (m.0, m.1, eqb-true m.0.change c (and_left (eqb m.0.change c) _ m.2), eqb-false m.0.entry e (not-true _ (and_right (eqb m.0.change c) _ m.2))),
  λ h. any_member _ h.1 (and_both (eqb h.0.change c) _ (eq-eqb h.0.change c h.2) (ap not (ne_eqb h.0.entry e h.3))),
)

-- a call that is not refused is answered 0, 20 or 21
pass_cond : (b : Bool) (x y : Outcome) → NoRefusal x.answer → NoRefusal y.answer → NoRefusal (cond b x y).answer
pass_cond true x y p q = p
pass_cond false x y p q = q

pass_done : (k : ℕ) (X : Window) → NoRefusal (done k X).answer
unfolding done
pass_done k X = inl refl

pass_blocked : (k : ℕ) (W : Window) → NoRefusal (unchanged 20 k W).answer
unfolding unchanged
pass_blocked k W = inr (inl refl)

pass_waits : (k : ℕ) (X : Window) → NoRefusal (blocked k X).answer
unfolding blocked
pass_waits k X = inr (inl refl)

pass_ended : (W : Window) → NoRefusal (unchanged 21 0 W).answer
unfolding unchanged
pass_ended W = inr (inr refl)

ruleset passes = (pass_cond, pass_done, pass_blocked, pass_waits, pass_ended)

effect-answer : (W : Window) (c : Call) → NoRefusal (effect W c).answer
unfolding effect lock_entry commit_change commit_group abort_change abort_all
effect-answer W (Open n) = search passes
effect-answer W (Initiate p) = search passes
effect-answer W (Begin c) = search passes
effect-answer W (Complete c) = search passes
effect-answer W (Lock c e m) = search passes
effect-answer W (Read c e) = search passes
effect-answer W (Write c e v) = search passes
effect-answer W (Permit g t e o) = search passes
effect-answer W (Delegate f t e) = search passes
effect-answer W (Depend k l f) = search passes
effect-answer W (Commit c) = search passes
effect-answer W (Abort c) = search passes
effect-answer W (Status c) = search passes
effect-answer W (Parent c) = search passes
effect-answer W (Value e) = search passes

answer_settled : (f : ℕ) (W : Window) (o : Outcome) → NoRefusal o.answer → AnswerOf f (settle f W o).answer
unfolding settle unchanged AnswerOf
answer_settled zero W o h = h
answer_settled (suc f) W o h = refl

-- CALL BY CALL
call_proper : (L : Limits) (W : Window) (c : Call) → proper (merged (checks L W c)) ≡ true
unfolding proper merged merge checks ◌if◌ all
call_proper L W (Open n) = refl
call_proper L W (Initiate p) = refl
call_proper L W (Begin c) = refl
call_proper L W (Complete c) = refl
call_proper L W (Lock c e m) = refl
call_proper L W (Read c e) = refl
call_proper L W (Write c e v) = refl
call_proper L W (Permit g t e o) = refl
call_proper L W (Delegate f t e) = refl
call_proper L W (Depend k l f) = refl
call_proper L W (Commit c) = refl
call_proper L W (Abort c) = refl
call_proper L W (Status c) = refl
call_proper L W (Parent c) = refl
call_proper L W (Value e) = refl

ruleset tells = (said_next, said_none, tells_equal, tells_less, tells_most, tells_above, tells_not, tells_or, tells_and, tells_nor, tells_outside, tells_none, tells_entry, tells_running, tells_live, tells_line)

module _ (L : Limits) (W : Window) (z : Sound L W) where
  -- 10 in words, where both changes are live
  tells_clash : (f t e : ℕ) → not (live W f && live W t) ≡ false
      → Tells (not (clashes_permitted (hand_over W f t (entries_named e)))) ((x : ℕ) × (a : ℕ) × (b : ℕ) × (pair_permitted (hand_over W f t (entries_named e)) x a b ≡ false))
  unfolding hand_over live entry_permitted
  tells_clash f t e l = let to = and_right (live W f) (live W t) (not-false _ l) in let X = hand_over W f t (entries_named e) in (
    λ h. let x = all_below-fails W.entries _ (sym (by_pairs X) ∙ not-true _ h) in let a = all_below-fails (suc W.given) _ x.1 in let b = all_below-fails (suc W.given) _ a.1 in (x.0, a.0, b.0, b.1),
    λ m. ap not (no_true _ (λ h. true≢false (sym (fits_all X (hand_held L W f t (entries_named e) z to) h m.0 m.1 m.2) ∙ m.3))),
  )

  -- 9 in words, where the tie is one that could stand
  tells_return : (k l f : ℕ) → outside 1 3 k ≡ false → eqb l f ≡ false → not (live W l && live W f) ≡ false
      → Tells (not (acyclic (suc W.given) (add_tie (make_tie k l f) W.ties))) ((x : ℕ) × Arrows (add_tie (make_tie k l f) W.ties) x x)
  unfolding add_tie with_ties live
  tells_return k l f r a h =
      let both = not-false _ h in
      let s = make_sound (live W) k l f r a (and_left (live W l) _ both) (and_right (live W l) _ both) in
      let ts = insert tie_key (λ x y. y) (make_tie k l f) W.ties in
      cyclic_paths ts (suc W.given) (ends_below_lem (with_ties W ts) (all_insert tie_key (λ x y. y) (tie_sound (live W)) (make_tie k l f) s (λ y q. q) W.ties z.ties))

  said : (c : Call) → Said (merged (checks L W c)) (refusals L W c)
  unfolding merged merge checks ◌if◌ refusals Outside every
  said (Open n) = search tells depth 12
  said (Initiate p) = search tells depth 12
  said (Begin c) = search tells depth 12
  said (Complete c) = search tells depth 12
  said (Lock c e m) = search tells depth 12
  said (Read c e) = search tells depth 12
  said (Write c e v) = search tells depth 12
  said (Permit g t e o) = search tells depth 12
  said (Delegate f t e) = search (tells, tells_clash) depth 12
  said (Depend k l f) = search (tells, tells_return) depth 12
  said (Commit c) = search tells depth 12
  said (Abort c) = search tells depth 12
  said (Status c) = search tells depth 12
  said (Parent c) = search tells depth 12
  said (Value e) = search tells depth 12

  -- demand 1: which refusal a call gets, in words
  pub call_refused : (c : Call) → Turned (step L W c).answer (refusals L W c)
  unfolding step
  call_refused c = turned _ (merged (checks L W c)) (refusals L W c) (call_proper L W c) (said c)
      (rw (merged_first (checks L W c)) (answer_settled (first_failed (checks L W c)) W (effect W c) (effect-answer W c)))
