-- The lines of the window are what the calls say: who waits, and in which order. Assumes nothing.
use mathlib.Core.Path.{◌≡◌, refl, sym, ◌∙◌, ap}
use mathlib.Core.Logic.{◌⊎◌, inl, inr, ⊎_elim, ◌≢◌}
use mathlib.Core.Bool.{Bool, true, false, not, cond, ◌&&◌, ◌||◌, false≢true, true≢false, and-false}
use mathlib.Core.List.{List, [], ◌∷◌, Memᴰ}
use Prim.Native.Nat.{ℕ, suc, ◌≤◌, ◌<◌}
use native.Mathlib.Omega.{arith}
use lib.Dec.{ltb, eqb}
use lib.ListN.{length}
use borrow.Author.Tests.{not-true, eqb-true, eqb-false, eq-eqb, ne_eqb, ltb-true, lt-ltb}
use Rattle.rules.specs.Base.{all, any, keep, outside}
use Rattle.rules.specs.Sets.{only}
use Rattle.rules.specs.Window.{Limits, LineRecord, Window, fresh, running, no_change}
use Rattle.rules.specs.Line.{make_waiter, waits_elsewhere, enter_line, stays_in_line, line_left}
use Rattle.rules.specs.Sound.{status_sound}
use Rattle.rules.specs.Calls.{Lock}
use Rattle.rules.specs.Events.{Event, action_of, is_locking, is_opening, is_answered}
use Rattle.rules.specs.Waiting.{waits_since, Waits}
use Rattle.rules.proofs.BaseLaws.{cond_same, and_both, and_left, and_right, eqb_same, Same, same, other, same?}
use Rattle.rules.proofs.DemandMoves.{shown_status}
use Rattle.rules.proofs.LineLaws.{enter-all}
use Rattle.rules.proofs.ListLaws.{all_member, all-members, any_member, keep_member}
use Rattle.rules.proofs.SoundLine.{in_line}
use Rattle.rules.proofs.SoundParts.{Sound}
use Rattle.rules.proofs.LineOrder.{is_in_order, order-keep, order_same, order-enter, stands_in, stands_record, record_stands, not_elsewhere, keep_stands, enter_self, enter_others}
use Rattle.rules.proofs.WaitingMoves.{Shift, opens, goes, leaves, enters}

-- since when the change of a record waits on its entry
abbrev pub since : List Event → LineRecord → ℕ
since p r = waits_since p r.change r.entry

abbrev is_since : List Event → LineRecord → Bool
is_since p r = ltb 0 (since p r) && ltb (since p r) (suc (length p))

-- who stands in line waits, who waits stands in line, and earlier ones first
pub record Queue (W : Window) (p : List Event) : Type 0 where
  known : all (is_since p) W.line ≡ true
  pub told : (c e : ℕ) → Waits p c e → stands_in W.line c e ≡ true
  pub sorted : is_in_order (since p) W.line ≡ true

pub since_some : (W : Window) (p : List Event) → Queue W p → {r : LineRecord} → Memᴰ r W.line → (0 < since p r) × (since p r ≤ length p)
since_some W p Q {r} m = let h = all_member (is_since p) m Q.known in
    let a = ltb-true 0 (since p r) (and_left (ltb 0 (since p r)) _ h) in let b = ltb-true (since p r) (suc (length p)) (and_right (ltb 0 (since p r)) _ h) in (a, omega arith)

pub since_most : (W : Window) (p : List Event) → Queue W p → (c e : ℕ) → Waits p c e → waits_since p c e ≤ length p
since_most W p Q c e w = let r = stands_record W.line c e (Q.told c e w) in rw (r.2, r.3) at (since_some W p Q r.1).1

-- nobody in line, and nobody waits
pub queue_fresh : (n : ℕ) (x : Event) → ((c : ℕ) → x.status c ≡ shown_status (fresh n) c) → Queue (fresh n) (x ∷ [])
unfolding fresh all is_in_order waits_since shown_status
queue_fresh n x shows = record { known = refl; told = λ c e w. absurd (w (none c e)); sorted = refl }
  where
    none : (c e : ℕ) → waits_since (x ∷ []) c e ≡ 0
    none c e = rw (shows c, cond_same (no_change (fresh n) c) 0)

-- whether a lock answered so is the one asked for
asked : (x : Event) (a b c e m d y : ℕ) → x.call ≡ Lock c e m → x.answer ≡ a → is_answered b d y x ≡ eqb a b && (eqb d c && eqb y e)
unfolding is_answered action_of is_locking
asked x a b c e m d y k q = rw (k, q)

module _ (L : Limits) (X : Window) (z : Sound L X) (x : Event) (shows : (c : ℕ) → x.status c ≡ shown_status X c) where
  -- the statuses shown say who runs
  shown_runs : (c : ℕ) → eqb (x.status c) 2 ≡ running X c
  unfolding shown_status running status_sound no_change
  shown_runs c = rw (shows c) (go (no_change X c) (z.statuses c))
    where
      go : (b : Bool) → cond b (eqb (X.status c) 0) (not (outside 1 5 (X.status c))) ≡ true → eqb (cond b 0 (X.status c)) 2 ≡ eqb (X.status c) 2
      go true e = rw (eqb-true (X.status c) 0 e)
      go false e = refl

  module _ (p : List Event) where
    -- who waits on, since when it did
    on : (c e : ℕ) → running X c ≡ true → is_answered 0 c e x ≡ false → (is_answered 20 c e x ≡ false) ⊎ Waits p c e → waits_since (x ∷ p) c e ≡ waits_since p c e
    unfolding waits_since
    on c e h a (inl b) = rw (shown_runs c, h, a, b)
    on c e h a (inr b) = rw (shown_runs c, h, a, ne_eqb (waits_since p c e) 0 b, and-false)

    -- who waits runs, and asked just now or waited before
    pub waits_back : (c e : ℕ) → Waits (x ∷ p) c e → (running X c ≡ true) × (is_answered 0 c e x ≡ false) × ((is_answered 20 c e x ≡ true) ⊎ Waits p c e)
    unfolding waits_since
    waits_back c e w = go (eqb (x.status c) 2) (is_answered 0 c e x) (is_answered 20 c e x) refl refl refl w
      where
        go : (a b d : Bool) → eqb (x.status c) 2 ≡ a → is_answered 0 c e x ≡ b → is_answered 20 c e x ≡ d → cond (not a || b) 0 (cond (d && eqb (waits_since p c e) 0) (suc (length p)) (waits_since p c e)) ≢ 0
            → (running X c ≡ true) × (is_answered 0 c e x ≡ false) × ((is_answered 20 c e x ≡ true) ⊎ Waits p c e)
        go false b d i j k v = absurd (v refl)
        go true true d i j k v = absurd (v refl)
        go true false true i j k v = (sym (shown_runs c) ∙ i, j, inl k)
        go true false false i j k v = (sym (shown_runs c) ∙ i, j, inr v)

    between : (n : ℕ) → 0 < n → n ≤ suc (length p) → ltb 0 n && ltb n (suc (suc (length p))) ≡ true
    between n a b = and_both (ltb 0 n) (ltb n (suc (suc (length p)))) (lt-ltb 0 n a) (lt-ltb n (suc (suc (length p))) (omega arith))

    -- one that waited waits on: it is seen as before
    seen : (r : LineRecord) → since (x ∷ p) r ≡ since p r → is_since p r ≡ true → is_since (x ∷ p) r ≡ true
    seen r q h = rw q (between (since p r) (ltb-true 0 (since p r) (and_left (ltb 0 (since p r)) _ h)) (omega (arith, ltb-true (since p r) (suc (length p)) (and_right (ltb 0 (since p r)) _ h))))

    module _ (W : Window) (zw : Sound L W) (Q : Queue W p) where
      runs : {r : LineRecord} → Memᴰ r W.line → running W r.change ≡ true
      runs m = (in_line L W zw m).0

      some : {r : LineRecord} → Memᴰ r W.line → since p r ≢ 0
      some m q = let h = since_some W p Q m in omega arith

      -- what is left of the lines, where those who stay wait on
      left : (q : LineRecord → Bool) → ((r : LineRecord) → Memᴰ r W.line → q r ≡ true → since (x ∷ p) r ≡ since p r) → X.line ≡ keep q W.line
          → ((c e : ℕ) → Waits (x ∷ p) c e → stands_in X.line c e ≡ true) → Queue X (x ∷ p)
      left q f l t = record {
        known = rw l (all-members (is_since (x ∷ p)) (keep q W.line) (λ r m. let h = keep_member q W.line m in seen r (f r h.0 h.1) (all_member (is_since p) h.0 Q.known)));
        told = t;
        sorted = rw l (order_same (since p) (since (x ∷ p)) (keep q W.line) (λ r m. let h = keep_member q W.line m in sym (f r h.0 h.1)) (order-keep (since p) q W.line Q.sorted));
      }

      -- no lock answered 0 or 20: who stops running leaves
      queue_goes : ((c e : ℕ) → (is_answered 0 c e x ≡ false) × (is_answered 20 c e x ≡ false)) → X.line ≡ keep (λ r. running X r.change) W.line → Queue X (x ∷ p)
      queue_goes n l = left (λ r. running X r.change) (λ r m h. on r.change r.entry h (n r.change r.entry).0 (inl (n r.change r.entry).1)) l back
        where
          back : (c e : ℕ) → Waits (x ∷ p) c e → stands_in X.line c e ≡ true
          back c e w = let v = waits_back c e w in ⊎_elim (λ q. absurd (true≢false (sym q ∙ (n c e).1))) (λ q. rw l (keep_stands (λ r. running X r.change) W.line c e (λ r i. rw i v.0) (Q.told c e q))) v.2

      -- a lock answered 0: its change leaves
      queue_leaves : (c e m : ℕ) → x.call ≡ Lock c e m → x.answer ≡ 0 → waits_elsewhere W.line c e ≡ false → X.status ≡ W.status → X.line ≡ line_left (only c) W.line → Queue X (x ∷ p)
      unfolding stays_in_line only running
      queue_leaves c e m k a n s l = left (stays_in_line (only c))
          (λ r i h. on r.change r.entry (rw s (runs i)) (asked x 0 0 c e m r.change r.entry k a ∙ ap (λ b. b && eqb r.entry e) (not-true (eqb r.change c) h)) (inl (asked x 0 20 c e m r.change r.entry k a)))
          (unfold line_left in l) (λ d y w. back d y (waits_back d y w))
        where
          stand : (d y : ℕ) → stands_in W.line d y ≡ true → is_answered 0 d y x ≡ false → {b : Bool} → Same d c b → stands_in X.line d y ≡ true
          stand d y h o (same q) = absurd (true≢false (sym (rw (q, not_elsewhere W.line c e y n (rw q at h), eqb_same c, eqb_same e)) ∙ sym (asked x 0 0 c e m d y k a) ∙ o))
          stand d y h o (other q) = rw l (unfold line_left in keep_stands (stays_in_line (only c)) W.line d y (λ r i. ap not (ap (λ j. eqb j c) i ∙ ne_eqb d c q)) h)

          back : (d y : ℕ) → (running X d ≡ true) × (is_answered 0 d y x ≡ false) × ((is_answered 20 d y x ≡ true) ⊎ Waits p d y) → stands_in X.line d y ≡ true
          back d y v = ⊎_elim (λ q. absurd (false≢true (sym (asked x 0 20 c e m d y k a) ∙ q))) (λ q. stand d y (Q.told d y q) v.1 (same? d c)) v.2

      -- a lock answered 20: its change enters, or keeps its place
      queue_enters : (c e m : ℕ) → x.call ≡ Lock c e m → x.answer ≡ 20 → waits_elsewhere W.line c e ≡ false → running W c ≡ true → X.status ≡ W.status → X.line ≡ enter_line (make_waiter c e m) W.line → Queue X (x ∷ p)
      unfolding running
      queue_enters c e m k a n h s l = record {
        known = rw l (enter-all (is_since (x ∷ p)) w (unfold make_waiter in new (eqb (waits_since p c e) 0) refl) W.line (all-members (is_since (x ∷ p)) W.line (λ r i. seen r (stay i) (all_member (is_since p) i Q.known))));
        told = λ d y v. back d y (waits_back d y v);
        sorted = rw l (order-enter (since (x ∷ p)) w W.line place last (order_same (since p) (since (x ∷ p)) W.line (λ r i. sym (stay i)) Q.sorted));
      }
        where
          w : LineRecord
          w = make_waiter c e m

          now : waits_since (x ∷ p) c e ≡ cond (eqb (waits_since p c e) 0) (suc (length p)) (waits_since p c e)
          now = unfold waits_since in rw (shown_runs c, s, h, asked x 20 0 c e m c e k a, asked x 20 20 c e m c e k a, eqb_same c, eqb_same e)

          new : (b : Bool) → eqb (waits_since p c e) 0 ≡ b → is_since (x ∷ p) (record { change = c; entry = e; mode = m }) ≡ true
          new true q = rw (now, q) (between (suc (length p)) (omega arith) (omega arith))
          new false q = let o = eqb-false (waits_since p c e) 0 q in rw (now, q) (between (waits_since p c e) (omega arith) (omega (arith, since_most W p Q c e o)))

          stay : {r : LineRecord} → Memᴰ r W.line → since (x ∷ p) r ≡ since p r
          stay {r} i = on r.change r.entry (rw s (runs i)) (asked x 20 0 c e m r.change r.entry k a) (inr (some i))

          place : (r : LineRecord) → Memᴰ r W.line → r.change ≡ w.change → since (x ∷ p) w ≡ since (x ∷ p) r
          place r i q = unfold make_waiter in let j : r.entry ≡ e = not_elsewhere W.line c e r.entry n (rw q at (record_stands i)) in rw (q, j)

          absent : any (λ r. eqb r.change c) W.line ≡ false → waits_since p c e ≡ 0
          absent o = go (same? (waits_since p c e) 0)
            where
              go : {b : Bool} → Same (waits_since p c e) 0 b → waits_since p c e ≡ 0
              go (same q) = q
              go (other q) = let r = stands_record W.line c e (Q.told c e q) in absurd (true≢false (sym (any_member (λ y. eqb y.change c) r.1 (eq-eqb r.0.change c r.2)) ∙ o))

          last : any (λ r. eqb r.change w.change) W.line ≡ false → all (λ r. ltb (since (x ∷ p) r) (since (x ∷ p) w)) W.line ≡ true
          last o = unfold make_waiter in all-members (λ r. ltb (since (x ∷ p) r) (waits_since (x ∷ p) c e)) W.line (λ r i. rw (stay i, now, absent o) (lt-ltb (since p r) (suc (length p)) (omega (arith, (since_some W p Q i).1))))

          self : (d y : ℕ) → d ≡ c → y ≡ e → stands_in X.line d y ≡ true
          self d y i j = rw (l, i, j) (enter_self c e m W.line)

          stand : (d y : ℕ) → stands_in W.line d y ≡ true → {b : Bool} → Same d c b → stands_in X.line d y ≡ true
          stand d y i (same q) = self d y q (not_elsewhere W.line c e y n (rw q at i))
          stand d y i (other q) = rw l (enter_others (make_waiter c e m) d y (unfold make_waiter in q) W.line i)

          back : (d y : ℕ) → (running X d ≡ true) × (is_answered 0 d y x ≡ false) × ((is_answered 20 d y x ≡ true) ⊎ Waits p d y) → stands_in X.line d y ≡ true
          back d y v = ⊎_elim (λ q. let i = sym (asked x 20 20 c e m d y k a) ∙ q in self d y (eqb-true d c (and_left (eqb d c) _ i)) (eqb-true y e (and_right (eqb d c) _ i))) (λ q. stand d y (Q.told d y q) (same? d c)) v.2

      pub queue_next : is_opening (action_of x.call) && eqb x.answer 0 ≡ false → Shift W x.call x.answer X → Queue X (x ∷ p)
      unfolding is_answered
      queue_next o (opens q a) = absurd (true≢false (sym (rw (q, a)) ∙ o))
      queue_next o (goes f l) = queue_goes f l
      queue_next o (leaves c e m k a n s l) = queue_leaves c e m k a n s l
      queue_next o (enters c e m k a n h s l) = queue_enters c e m k a n h s l
