-- What the lines are held to, of the rules, for any largest figures: no later comer is granted ahead of an earlier one, and the first in line is served. Assumes nothing.
use mathlib.Core.Path.{◌≡◌, refl, sym, ◌∙◌, ap}
use mathlib.Core.Logic.{◌⊎◌, inl, inr, ⊎_elim, ◌≢◌}
use mathlib.Core.Bool.{Bool, true, false, not, cond, ◌&&◌, false≢true, and-true, and-false}
use mathlib.Core.List.{List, [], ◌∷◌, Memᴰ}
use Prim.Native.Nat.{ℕ, ◌<◌}
use native.Mathlib.Omega.{arith}
use lib.Dec.{ltb, leb, eqb}
use borrow.Author.Tests.{eqb-true, ltb-true, lt-leb}
use Rattle.rules.specs.Base.{all, outside}
use Rattle.rules.specs.Window.{Limits, LineRecord, Window, fresh, running, no_entry}
use Rattle.rules.specs.Locks.{clash, permitted}
use Rattle.rules.specs.Line.{waits_elsewhere, first_in_line}
use Rattle.rules.specs.Calls.{Call, Open, Lock, done, fits}
use Rattle.rules.specs.Effects.{covers, effect, lock_entry}
use Rattle.rules.specs.Refusals.{step, settle, checks, first_failed, ◌if◌}
use Rattle.rules.specs.Events.{Event, nothing, action_of, action, is_opening, is_open}
use Rattle.rules.specs.Lists.{remember, event, history, book}
use Rattle.rules.specs.Waiting.{waits_since, Waits, First, InTurn, LastInTurn, Queued}
use Rattle.rules.proofs.BaseLaws.{and_left, and_right, Same, same, other, same?}
use Rattle.rules.proofs.Demand.{Inv, call_inv, first_inv}
use Rattle.rules.proofs.DemandBook.{book_of}
use Rattle.rules.proofs.DemandMoves.{shown_status, status-shown}
use Rattle.rules.proofs.LockPromises.{lock_granted_lem}
use Rattle.rules.proofs.RuleLaws.{is_open_lem, done_unrefused}
use Rattle.rules.proofs.SoundParts.{Sound}
use Rattle.rules.proofs.SoundLine.{running-given, running-change, in_line}
use Rattle.rules.proofs.SoundStep.{step-sound, opened_sound, opened_fresh}
use Rattle.rules.proofs.LineOrder.{first-before, stands_record, one_line}
use Rattle.rules.proofs.WaitingLaws.{since, Queue, since_some, queue_fresh, queue_next}
use Rattle.rules.proofs.WaitingMoves.{shift}

module _ (L : Limits) (W : Window) (p : List Event) (v : Inv L W p) (Q : Queue W p) where
  z : Sound L W
  z = v.sound

  same_held : (e c : ℕ) → (book p).held e c ≡ W.held e c
  same_held e c = rw v.booked (unfold book_of in refl)

  same_permits : (book p).permits ≡ W.permits
  same_permits = rw v.booked (unfold book_of in refl)

  -- nobody in line is 0
  numbered : {r : LineRecord} → Memᴰ r W.line → 0 < r.change
  numbered {r} m = (running-given L W z r.change (in_line L W z m).0).0

  granted_in_turn : (a b e m : ℕ) → (step L W (Lock b e m)).answer ≡ 0 → covers ((book p).held e b) m ≡ false → a ≢ b → Waits p a e → Waits p b e × (waits_since p b e < waits_since p a e)
  granted_in_turn a b e m o h n w = go ((lock_granted_lem L W z b e m (done_unrefused L W (Lock b e m) o).0 (rw (same_held e b) at h)).0 o).1 q.4
    where
      r : (r : LineRecord) × Memᴰ r W.line × (r.change ≡ a) × (r.entry ≡ e)
      r = stands_record W.line a e (Q.told a e w)

      q : (q : LineRecord) × Memᴰ q W.line × (q.entry ≡ e) × (q.change ≡ first_in_line W.line e) × ((q ≡ r.0) ⊎ (since p q < since p r.0))
      q = first-before (since p) e r.1 r.3 Q.sorted

      go : (first_in_line W.line e ≡ 0) ⊎ (first_in_line W.line e ≡ b) → (q.0 ≡ r.0) ⊎ (since p q.0 < since p r.0) → Waits p b e × (waits_since p b e < waits_since p a e)
      go (inl i) j = absurd (omega (arith, numbered q.1, q.3, i))
      go (inr i) (inl j) = absurd (n (sym r.2 ∙ ap (λ y. y.change) (sym j) ∙ q.3 ∙ i))
      go (inr i) (inr j) = let k : q.0.change ≡ b = q.3 ∙ i in let u = rw (k, q.2) at (since_some W p Q q.1).0 in (λ y. omega arith, rw (k, q.2, r.2, r.3) at j)

  first_served : (c e m : ℕ) → (m ≡ 1) ⊎ (m ≡ 2) → First p c e
      → ((d : ℕ) → d ≢ c → clash ((book p).held e d) m ≡ true → permitted (book p).permits d c e m ≡ true) → (step L W (Lock c e m)).answer ≡ 0
  first_served c e m k f g = go (covers (W.held e c) m) refl
    where
      r : (r : LineRecord) × Memᴰ r W.line × (r.change ≡ c) × (r.entry ≡ e)
      r = stands_record W.line c e (Q.told c e f.waits)

      q : (q : LineRecord) × Memᴰ q W.line × (q.entry ≡ e) × (q.change ≡ first_in_line W.line e) × ((q ≡ r.0) ⊎ (since p q < since p r.0))
      q = first-before (since p) e r.1 r.3 Q.sorted

      fine : (running W r.0.change ≡ true) × (ltb r.0.entry W.entries ≡ true) × (not (outside 1 2 r.0.mode) ≡ true)
      fine = in_line L W z r.1

      runs : running W c ≡ true
      runs = ap (running W) (sym r.2) ∙ fine.0

      first : {b : Bool} → Same q.0.change c b → first_in_line W.line e ≡ c
      first (same i) = sym q.3 ∙ i
      first (other i) = ⊎_elim (λ j. absurd (i (ap (λ y. y.change) j ∙ r.2))) (λ j. absurd (omega (arith, rw (q.2, r.2, r.3) at j, f.before q.0.change i (λ y. omega (arith, y, rw q.2 at (since_some W p Q q.1).0))))) q.4

      here : waits_elsewhere W.line c e ≡ false
      here = rw (r.2, r.3) at (one_line r.1 z.line-once)

      entry : leb W.entries e ≡ false
      entry = lt-leb W.entries e (ltb-true e W.entries (rw r.3 at fine.1))

      mode : outside 1 2 m ≡ false
      mode = unfold outside in ⊎_elim (λ i. rw i) (λ i. rw i) k

      passed : first_failed (checks L W (Lock c e m)) ≡ 0
      passed = unfold checks first_failed ◌if◌ no_entry in rw (running-change L W z c runs, entry, mode, runs, here)

      covered : covers (W.held e c) m ≡ true → (step L W (Lock c e m)).answer ≡ 0
      covered h = unfold step settle effect lock_entry done in rw (passed, h)

      go : (b : Bool) → covers (W.held e c) m ≡ b → (step L W (Lock c e m)).answer ≡ 0
      go true h = covered h
      go false h = (lock_granted_lem L W z c e m passed h).1 (λ d n i. rw same_permits at (g d n (rw (same_held e d) i)), inr (first (same? q.0.change c)))

  pub in_turn : (x : Call) → InTurn p (event (step L) W x)
  unfolding event
  in_turn x = record {
    order = λ a b e m q o. granted_in_turn a b e m (rw q at o);
    next = λ c e m q k f g. rw q (first_served c e m k f g);
  }

-- an open is no lock
open_in_turn : (p : List Event) (x : Event) → is_opening (action_of x.call) ≡ true → InTurn p x
unfolding action_of is_opening
open_in_turn p x o = record {
  order = λ a b e m q. absurd (false≢true (rw q at o));
  next = λ c e m q. absurd (false≢true (rw q at o));
}

-- an open answered 0
opening_when : (x : Event) → is_opening (action x) ≡ is_opening (action_of x.call) && eqb x.answer 0
unfolding action is_opening
opening_when x = go (eqb x.answer 0)
  where
    go : (b : Bool) → is_opening (cond b (action_of x.call) nothing) ≡ is_opening (action_of x.call) && b
    go true = sym (and-true (is_opening (action_of x.call)))
    go false = sym (and-false (is_opening (action_of x.call)))

remember-first : (x : Event) → remember x [] ≡ x ∷ []
unfolding remember
remember-first x = go (is_opening (action x))
  where
    go : (b : Bool) → ◌≡◌ {A = List Event} (x ∷ cond b [] []) (x ∷ [])
    go true = refl
    go false = refl

module _ (L : Limits) where
  opened_queue : (X : Window) (n : ℕ) → X ≡ fresh n → (x : Event) → ((c : ℕ) → x.status c ≡ shown_status X c) → Queue X (x ∷ [])
  opened_queue X n q x shows = rw q (queue_fresh n x (λ c. shows c ∙ ap (λ Y. shown_status Y c) q))

  -- after a call
  call_turns : (x : Call) (W : Window) (p : List Event) → Inv L W p → Queue W p → Sound L (step L W x).after
      → Queue (step L W x).after (remember (event (step L) W x) p) × LastInTurn (remember (event (step L) W x) p)
  unfolding remember event is_open
  call_turns x W p v Q h = go (is_opening (action (event (step L) W x))) (opening_when (event (step L) W x))
    where
      X : Window
      X = (step L W x).after

      go : (b : Bool) → b ≡ is_opening (action_of x) && eqb (step L W x).answer 0 → Queue X (event (step L) W x ∷ cond b [] p) × InTurn (cond b [] p) (event (step L) W x)
      go true o = let i = and_left (is_opening (action_of x)) _ (sym o) in let n = is_open_lem x i in
          (opened_queue X n.0 (ap (λ y. (step L W y).after) n.1 ∙ opened_fresh L W n.0 (ap (λ y. (step L W y).answer) (sym n.1) ∙ eqb-true (step L W x).answer 0 (and_right (is_opening (action_of x)) _ (sym o)))) (event (step L) W x) (status-shown L X), open_in_turn [] (event (step L) W x) i)
      go false o = (queue_next L X h (event (step L) W x) (status-shown L X) p W v.sound Q (sym o) (shift L W v.sound x), in_turn L W p v Q x)

  hist_turns : (l : List Call) (W : Window) (p : List Event) → Inv L W p → Queue W p → LastInTurn p → all fits l ≡ true → LastInTurn (history (step L) W p l)
  unfolding history all
  hist_turns [] W p v Q t f = t
  hist_turns (x ∷ l) W p v Q t f = let h = step-sound L W x (and_left (fits x) _ f) v.sound in let n = call_turns x W p v Q h in
      hist_turns l (step L W x).after (remember (event (step L) W x) p) (call_inv L x W p v h) n.0 n.1 (and_right (fits x) _ f)

  -- after the first open
  first_turns : (s : Window) (n : ℕ) → (step L s (Open n)).answer ≡ 0 → Queue (step L s (Open n)).after (remember (event (step L) s (Open n)) []) × LastInTurn (remember (event (step L) s (Open n)) [])
  unfolding event action_of is_opening
  first_turns s n e = let X = (step L s (Open n)).after in let x = event (step L) s (Open n) in
      rw (remember-first x) (opened_queue X n (opened_fresh L s n e) x (status-shown L X), open_in_turn [] x refl)

  pub rules_queued : Queued (step L)
  unfolding history
  rules_queued s n e l f = let t = first_turns s n e in
      hist_turns l (step L s (Open n)).after (remember (event (step L) s (Open n)) []) (first_inv L s n e (opened_fresh L s n e) (opened_sound L s n e)) t.0 t.1 f
