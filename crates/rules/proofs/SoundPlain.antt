-- A fresh window is sound; values, the log, a status and a new change keep a window sound. Assumes nothing.
use mathlib.Core.Path.{◌≡◌, refl, sym, ◌∙◌, ap, fun_ext}
use mathlib.Core.Bool.{Bool, true, false, not, cond, ◌&&◌, ◌||◌, or-true}
use mathlib.Core.List.{List, [], ◌∷◌, ◌++◌}
use Prim.Native.Nat.{ℕ, suc, ◌≤◌, ◌^◌}
use native.Mathlib.Omega.{arith}
use lib.Dec.{leb, ltb, eqb}
use lib.ListN.{length}
use borrow.Author.Tests.{eqb-true, ne_eqb, lt-ltb, le-ltb, ltb-true}
use Rattle.rules.specs.Base.{put, exceeds, all, rising, distinct, outside}
use Rattle.rules.specs.Sets.{Set}
use Rattle.rules.specs.Window.{Limits, LogRecord, PermitRecord, TieRecord, Window, fresh, with_value, with_status, with_log, live, running, no_change}
use Rattle.rules.specs.Locks.{clash}
use Rattle.rules.specs.Ties.{acyclic}
use Rattle.rules.specs.Sound.{value_sound, status_sound, parent_sound, held_sound, record_sound, permit_sound, tie_sound, waiter_sound}
use Rattle.rules.specs.Effects.{undo, add_change, owned_on, records_left, withdraw}
use Rattle.rules.proofs.BaseLaws.{both_ways, Same, same, other, same?, or_map, and_left, and_right, and_map, over_less}
use Rattle.rules.proofs.LineLaws.{waiter_more}
use Rattle.rules.proofs.ListLaws.{all_weaken, all_append, length-append-one}
use Rattle.rules.proofs.PairLaws.{pair_permitted}
use Rattle.rules.proofs.PathLaws.{acyclic-more}
use Rattle.rules.proofs.SoundParts.{Sound, status_none, live_below, ends_below_lem, record_parts, permit_parts, tie_parts}
use Rattle.rules.proofs.UndoLaws.{left_all, left_few}

-- a fresh window
pub fresh-sound : (L : Limits) (n : ℕ) → ltb 0 n ≡ true → not (exceeds n L.entries) ≡ true → Sound L (fresh n)
unfolding fresh value_sound status_sound parent_sound held_sound pair_permitted clash all exceeds rising acyclic distinct
fresh-sound L n h l = record {
  some = h;
  entries = l;
  changes = refl;
  room_log = refl;
  room_permits = refl;
  room_ties = refl;
  values = λ e. or-true (ltb e n);
  statuses = λ c. nobody c (not (outside 1 5 0));
  parents = λ c. nobody c (ltb 0 c);
  helds = λ e c. refl;
  records = refl;
  permits = refl;
  ties = refl;
  permit_order = refl;
  tie_order = refl;
  no_cycle_lem = refl;
  locks = λ e a b. rw or-true;
  room_line = refl;
  line = refl;
  line-once = refl;
}
  where
    nobody : (c : ℕ) (t : Bool) → cond (eqb c 0 || ltb 0 c) true t ≡ true
    nobody c t = go (same? c 0)
      where
        go : {b : Bool} → Same c 0 b → cond (b || ltb 0 c) true t ≡ true
        go (same e) = refl
        go (other q) = rw (lt-ltb 0 c (omega arith))

-- values
pub value-put : (m : ℕ) (v : ℕ → ℕ) (i x : ℕ) → ltb i m ≡ true → ltb x (2 ^ 32) ≡ true
    → ((e : ℕ) → value_sound m v e ≡ true) → (e : ℕ) → value_sound m (put v i x) e ≡ true
unfolding value_sound put
value-put m v i x h l f e = go (same? e i)
  where
    go : {b : Bool} → Same e i b → ltb (cond b x (v e)) (2 ^ 32) && (ltb e m || eqb (cond b x (v e)) 0) ≡ true
    go (same q) = rw (q, h, l)
    go (other n) = f e

undo-values : (m : ℕ) (lives : Set) (held : ℕ → ℕ → ℕ) (s : Set) (l : List LogRecord) (v : ℕ → ℕ) → all (record_sound m lives held) l ≡ true
    → ((e : ℕ) → value_sound m v e ≡ true) → (e : ℕ) → value_sound m (undo s l v) e ≡ true
unfolding all undo owned_on value_sound
undo-values m lives held s [] v a f e = f e
undo-values m lives held s (r ∷ l) v a f e =
    go (s r.owner) (same? e r.entry) (record_parts m lives held r (and_left (record_sound m lives held r) (all (record_sound m lives held) l) a)) (undo-values m lives held s l v (and_right (record_sound m lives held r) (all (record_sound m lives held) l) a) f e)
  where
    go : (b : Bool) {d : Bool} → Same e r.entry d → (lives r.owner ≡ true) × (ltb r.entry m ≡ true) × (ltb r.before (2 ^ 32) ≡ true) × (eqb (held r.entry r.owner) 2 ≡ true)
        → ltb (undo s l v e) (2 ^ 32) && (ltb e m || eqb (undo s l v e) 0) ≡ true
        → ltb (cond (b && d) r.before (undo s l v e)) (2 ^ 32) && (ltb e m || eqb (cond (b && d) r.before (undo s l v e)) 0) ≡ true
    go true (same q) p h = rw (q, p.1, p.2)
    go true (other n) p h = h
    go false d p h = h

pub value_sound_lem : (L : Limits) (W : Window) (v : ℕ → ℕ) → ((e : ℕ) → value_sound W.entries v e ≡ true) → Sound L W → Sound L (with_value W v)
unfolding with_value live running pair_permitted
value_sound_lem L W v f k = record {
  some = k.some;
  entries = k.entries;
  changes = k.changes;
  room_log = k.room_log;
  room_permits = k.room_permits;
  room_ties = k.room_ties;
  values = f;
  statuses = k.statuses;
  parents = k.parents;
  helds = k.helds;
  records = k.records;
  permits = k.permits;
  ties = k.ties;
  permit_order = k.permit_order;
  tie_order = k.tie_order;
  no_cycle_lem = k.no_cycle_lem;
  locks = k.locks;
  room_line = k.room_line;
  line = k.line;
  line-once = k.line-once;
}

-- another log
pub log-sound : (L : Limits) (W : Window) (l : List LogRecord) → all (record_sound W.entries (live W) W.held) l ≡ true → not (exceeds (length l) L.records) ≡ true
    → Sound L W → Sound L (with_log W l)
unfolding with_log live running pair_permitted
log-sound L W l h room k = record {
  some = k.some;
  entries = k.entries;
  changes = k.changes;
  room_log = room;
  room_permits = k.room_permits;
  room_ties = k.room_ties;
  values = k.values;
  statuses = k.statuses;
  parents = k.parents;
  helds = k.helds;
  records = h;
  permits = k.permits;
  ties = k.ties;
  permit_order = k.permit_order;
  tie_order = k.tie_order;
  no_cycle_lem = k.no_cycle_lem;
  locks = k.locks;
  room_line = k.room_line;
  line = k.line;
  line-once = k.line-once;
}

-- one more record
pub record_sound_lem : (L : Limits) (W : Window) (r : LogRecord) → record_sound W.entries (live W) W.held r ≡ true → not (exceeds (suc (length W.log)) L.records) ≡ true
    → Sound L W → Sound L (with_log W (W.log ++ (r ∷ [])))
record_sound_lem L W r h l k = log-sound L W (W.log ++ (r ∷ [])) (all_append (record_sound W.entries (live W) W.held) W.log r k.records h) (rw (length-append-one W.log r) l) k

-- the records of a set withdrawn
pub withdraw-sound : (L : Limits) (W : Window) (s : Set) → Sound L W → Sound L (withdraw s W)
unfolding withdraw with_value live
withdraw-sound L W s k = log-sound L (with_value W (undo s W.log W.value)) (records_left s W.log) (left_all s (record_sound W.entries (live W) W.held) W.log k.records)
    (over_less (length W.log) (length (records_left s W.log)) L.records (left_few s W.log) k.room_log)
    (value_sound_lem L W (undo s W.log W.value) (undo-values W.entries (live W) W.held s W.log W.value k.records k.values) k)

-- a status as live as the one before changes nobody's being live
live-put : (W : Window) (c s : ℕ) → outside 1 3 (W.status c) ≡ outside 1 3 s → live (with_status W (put W.status c s)) ≡ live W
unfolding live with_status put
live-put W c s h = fun_ext (λ d. ap (λ x. ltb d (suc W.given) && not x) (go d (same? d c)))
  where
    go : (d : ℕ) {b : Bool} → Same d c b → outside 1 3 (cond b s (W.status d)) ≡ outside 1 3 (W.status d)
    go d (same e) = sym h ∙ ap (λ x. outside 1 3 (W.status x)) (sym e)
    go d (other n) = refl

status-put : (W : Window) (c s : ℕ) → no_change W c ≡ false → outside 1 5 s ≡ false → ((d : ℕ) → status_sound W.given W.status d ≡ true)
    → (d : ℕ) → status_sound W.given (put W.status c s) d ≡ true
unfolding status_sound put no_change
status-put W c s n z f d = go (same? d c)
  where
    go : {b : Bool} → Same d c b → cond (no_change W d) (eqb (cond b s (W.status d)) 0) (not (outside 1 5 (cond b s (W.status d)))) ≡ true
    go (same q) = rw (q, n, z)
    go (other q) = f d

pub status_sound_lem : (L : Limits) (W : Window) (c s : ℕ) → no_change W c ≡ false → outside 1 3 (W.status c) ≡ outside 1 3 s
    → outside 1 5 s ≡ false → all (waiter_sound W.entries (running (with_status W (put W.status c s)))) W.line ≡ true → Sound L W → Sound L (with_status W (put W.status c s))
unfolding with_status pair_permitted
status_sound_lem L W c s n h z w k = record {
  some = k.some;
  entries = k.entries;
  changes = k.changes;
  room_log = k.room_log;
  room_permits = k.room_permits;
  room_ties = k.room_ties;
  values = k.values;
  statuses = status-put W c s n z k.statuses;
  parents = k.parents;
  helds = rw (live-put W c s h) k.helds;
  records = rw (live-put W c s h) k.records;
  permits = rw (live-put W c s h) k.permits;
  ties = rw (live-put W c s h) k.ties;
  permit_order = k.permit_order;
  tie_order = k.tie_order;
  no_cycle_lem = k.no_cycle_lem;
  locks = k.locks;
  room_line = k.room_line;
  line = w;
  line-once = k.line-once;
}

-- where more live, what was sound is sound
module _ (m : ℕ) (f g : Set) (more : (c : ℕ) → f c ≡ true → g c ≡ true) where
  held_more : (held : ℕ → ℕ → ℕ) (e c : ℕ) → held_sound m f held e c ≡ true → held_sound m g held e c ≡ true
  unfolding held_sound
  held_more held e c = and_map (leb (held e c) 2) _ _ _ (λ h. h) (or_map (eqb (held e c) 0) _ _ _ (λ h. h) (and_map (ltb e m) (f c) _ _ (λ h. h) (more c)))

  record_more : (held : ℕ → ℕ → ℕ) (r : LogRecord) → record_sound m f held r ≡ true → record_sound m g held r ≡ true
  unfolding record_sound
  record_more held r h = let p = record_parts m f held r h in rw (more r.owner p.0, p.1, p.2, p.3)

  permit_more : (p : PermitRecord) → permit_sound m f p ≡ true → permit_sound m g p ≡ true
  unfolding permit_sound
  permit_more p h = let q = permit_parts m f p h in rw (more p.giver q.0, or_map (eqb p.taker 0) (f p.taker) (eqb p.taker 0) (g p.taker) (λ x. x) (more p.taker) q.1, q.2, q.3, q.4)

tie_more : (f g : Set) → ((c : ℕ) → f c ≡ true → g c ≡ true) → (t : TieRecord) → tie_sound f t ≡ true → tie_sound g t ≡ true
unfolding tie_sound
tie_more f g more t h = let q = tie_parts f t h in rw (q.0, more t.leader q.1, more t.follower q.2, q.3, q.4)

-- one more change: the live live on
pub live-start : (W : Window) (p c : ℕ) → live W c ≡ true → live (add_change W p) c ≡ true
unfolding live add_change put
live-start W p c h = let l = live_below W c h in
    rw (ne_eqb c (suc W.given) (omega arith), lt-ltb c (suc (suc W.given)) (omega arith)) (and_right (ltb c (suc W.given)) _ h)

-- who runs, runs on
pub run_start : (L : Limits) (W : Window) (p : ℕ) → Sound L W → (c : ℕ) → running W c ≡ true → running (add_change W p) c ≡ true
unfolding running add_change put
run_start L W p k c h = go (same? c (suc W.given))
  where
    go : {b : Bool} → Same c (suc W.given) b → eqb (cond b 1 (W.status c)) 2 ≡ true
    go (same q) = absurd (omega (arith, eqb-true (W.status c) 2 h, status_none L W k c (omega arith)))
    go (other n) = h

module _ (L : Limits) (W : Window) (p : ℕ) (room : not (exceeds (suc W.given) L.changes) ≡ true) (lower : p ≤ W.given) (k : Sound L W) where
  -- the places of changes, with the new one
  places : (g : ℕ → ℕ) (x : ℕ) (test : ℕ → ℕ → Bool) → test (suc W.given) x ≡ true
      → ((c : ℕ) → cond (eqb c 0 || ltb W.given c) (eqb (g c) 0) (test c (g c)) ≡ true)
      → (c : ℕ) → cond (eqb c 0 || ltb (suc W.given) c) (eqb (put g (suc W.given) x c) 0) (test c (put g (suc W.given) x c)) ≡ true
  unfolding put
  places g x test e h c = go (same? c (suc W.given))
    where
      go : {b : Bool} → Same c (suc W.given) b → cond (eqb c 0 || ltb (suc W.given) c) (eqb (cond b x (g c)) 0) (test c (cond b x (g c))) ≡ true
      go (same q) = rw (q, ne_eqb (suc W.given) 0 (omega arith), le-ltb (suc W.given) (suc W.given) (omega arith)) e
      go (other q) = rw (both_ways (ltb (suc W.given) c) (ltb W.given c) (λ a. lt-ltb W.given c (omega (arith, ltb-true (suc W.given) c a))) (λ a. lt-ltb (suc W.given) c (omega (arith, ltb-true W.given c a)))) (h c)

  pub start-sound : Sound L (add_change W p)
  unfolding add_change status_sound parent_sound pair_permitted outside
  start-sound = record {
    some = k.some;
    entries = k.entries;
    changes = room;
    room_log = k.room_log;
    room_permits = k.room_permits;
    room_ties = k.room_ties;
    values = k.values;
    statuses = places W.status 1 (λ c x. not (outside 1 5 x)) refl k.statuses;
    parents = places W.parent p (λ c x. ltb x c) (lt-ltb p (suc W.given) (omega arith)) k.parents;
    helds = λ e c. held_more W.entries (live W) (live (add_change W p)) (live-start W p) W.held e c (k.helds e c);
    records = all_weaken _ _ (record_more W.entries (live W) (live (add_change W p)) (live-start W p) W.held) W.log k.records;
    permits = all_weaken _ _ (permit_more W.entries (live W) (live (add_change W p)) (live-start W p)) W.permits k.permits;
    ties = all_weaken _ _ (tie_more (live W) (live (add_change W p)) (live-start W p)) W.ties k.ties;
    permit_order = k.permit_order;
    tie_order = k.tie_order;
    no_cycle_lem = acyclic-more (suc W.given) W.ties (ends_below_lem W k.ties) k.no_cycle_lem;
    locks = k.locks;
    room_line = k.room_line;
    line = all_weaken _ _ (waiter_more W.entries (running W) (running (add_change W p)) (run_start L W p k)) W.line k.line;
    line-once = k.line-once;
  }
