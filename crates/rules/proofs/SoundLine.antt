-- A place in line that is taken or left keeps a window sound. Assumes nothing.
use mathlib.Core.Path.{◌≡◌, refl, ap}
use mathlib.Core.Bool.{Bool, true, false, not, cond}
use mathlib.Core.List.{List, Memᴰ}
use Prim.Native.Nat.{ℕ, suc, ◌≤◌, ◌<◌}
use native.Mathlib.Omega.{arith}
use lib.Dec.{ltb, eqb}
use lib.ListN.{length}
use borrow.Author.Tests.{not-true, eqb-true, eqb-false, lt-ltb}
use Rattle.rules.specs.Base.{put, all, distinct, outside}
use Rattle.rules.specs.Sets.{only}
use Rattle.rules.specs.Window.{Limits, LineRecord, Window, with_status, with_line, live, running, no_change}
use Rattle.rules.specs.Line.{make_waiter, line_left, stays_in_line}
use Rattle.rules.specs.Sound.{status_sound, waiter_sound}
use Rattle.rules.specs.Effects.{leave, wait}
use Rattle.rules.proofs.BaseLaws.{and_both, or_none, over_false, within_of}
use Rattle.rules.proofs.LineLaws.{waiter_parts, distinct-keep, distinct_most, enter-all, enter-distinct}
use Rattle.rules.proofs.ListLaws.{all_member, all_keep, all_weaken}
use Rattle.rules.proofs.PairLaws.{pair_permitted}
use Rattle.rules.proofs.SoundParts.{Sound, numbered}

module _ (L : Limits) (W : Window) (k : Sound L W) where
  -- who runs is a change, so it has a number given
  pub running-change : (c : ℕ) → running W c ≡ true → no_change W c ≡ false
  unfolding running status_sound no_change
  running-change c h = go (no_change W c) (k.statuses c)
    where
      go : (b : Bool) → cond b (eqb (W.status c) 0) (not (outside 1 5 (W.status c))) ≡ true → b ≡ false
      go true e = absurd (omega (arith, eqb-true (W.status c) 0 e, eqb-true (W.status c) 2 h))
      go false e = refl

  pub running-given : (c : ℕ) → running W c ≡ true → (0 < c) × (c ≤ W.given)
  unfolding no_change
  running-given c h = let n = running-change c h in (omega (arith, eqb-false c 0 (or_none (eqb c 0) _ n).0), numbered W c n)

  -- "each change stands in one line at most, and who stands in line is running": what a record of a line says
  pub in_line : {r : LineRecord} → Memᴰ r W.line → (running W r.change ≡ true) × (ltb r.entry W.entries ≡ true) × (not (outside 1 2 r.mode) ≡ true)
  in_line {r} m = waiter_parts W.entries (running W) r (all_member (waiter_sound W.entries (running W)) m k.line)

  -- so no more stand in line than there are changes
  pub line_most : (l : List LineRecord) → all (waiter_sound W.entries (running W)) l ≡ true → distinct (λ r. r.change) l ≡ true → length l ≤ W.given
  line_most l a d = distinct_most (λ r. r.change) W.given l
      (all_weaken (waiter_sound W.entries (running W)) _ (λ r h. let g = running-given r.change (waiter_parts W.entries (running W) r h).0 in and_both (ltb 0 r.change) _ (lt-ltb 0 r.change g.0) (lt-ltb r.change (suc W.given) (omega (arith, g.1)))) l a) d

  pub line-sound : (l : List LineRecord) → all (waiter_sound W.entries (running W)) l ≡ true → distinct (λ r. r.change) l ≡ true → Sound L (with_line W l)
  unfolding with_line live running pair_permitted
  line-sound l a d = record {
    some = k.some;
    entries = k.entries;
    changes = k.changes;
    room_log = k.room_log;
    room_permits = k.room_permits;
    room_ties = k.room_ties;
    values = k.values;
    statuses = k.statuses;
    parents = k.parents;
    helds = k.helds;
    records = k.records;
    permits = k.permits;
    ties = k.ties;
    permit_order = k.permit_order;
    tie_order = k.tie_order;
    no_cycle_lem = k.no_cycle_lem;
    locks = k.locks;
    room_line = ap not (over_false (length l) L.changes (omega (arith, line_most l a d, within_of W.given L.changes k.changes)));
    line = a;
    line-once = d;
  }

  pub leave-sound : (c : ℕ) → Sound L (leave W c)
  unfolding leave line_left
  leave-sound c = line-sound _ (all_keep (waiter_sound W.entries (running W)) (stays_in_line (only c)) _ (λ r a b. a) W.line k.line) (distinct-keep (λ r. r.change) (stays_in_line (only c)) W.line k.line-once)

  pub wait-sound : (c e m : ℕ) → running W c ≡ true → ltb e W.entries ≡ true → outside 1 2 m ≡ false → Sound L (wait W c e m)
  unfolding wait make_waiter waiter_sound
  wait-sound c e m h i j = line-sound _ (enter-all (waiter_sound W.entries (running W)) (make_waiter c e m) (rw (h, i, j)) W.line k.line) (enter-distinct (make_waiter c e m) W.line k.line-once)

-- who runs, runs on when another begins or completes
pub run_begin : (W : Window) (c d : ℕ) → running W d ≡ true → running (with_status W (put W.status c 2)) d ≡ true
unfolding running with_status put
run_begin W c d h = go (eqb d c)
  where
    go : (b : Bool) → eqb (cond b 2 (W.status d)) 2 ≡ true
    go true = refl
    go false = h

pub run_complete : (W : Window) (c s d : ℕ) → eqb d c ≡ false → running W d ≡ true → running (with_status W (put W.status c s)) d ≡ true
unfolding running with_status put
run_complete W c s d n h = rw n h

pub complete_line : (L : Limits) (W : Window) (c : ℕ) → Sound L W → all (waiter_sound W.entries (running (with_status W (put W.status c 3)))) (line_left (only c) W.line) ≡ true
unfolding line_left stays_in_line only waiter_sound
complete_line L W c k = all_keep (waiter_sound W.entries (running W)) (stays_in_line (only c)) (waiter_sound W.entries (running (with_status W (put W.status c 3))))
    (λ r a b. let q = waiter_parts W.entries (running W) r a in rw (run_complete W c 3 r.change (not-true _ b) q.0, q.1, q.2)) W.line k.line
