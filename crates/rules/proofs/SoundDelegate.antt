-- A delegate that leaves each clashing pair its permit keeps a window sound. Assumes nothing.
use mathlib.Core.Path.{◌≡◌, refl, sym}
use mathlib.Core.Logic.{⊎_elim, ◌≢◌}
use mathlib.Core.Bool.{Bool, true, false, not, cond, ◌&&◌, ◌||◌}
use mathlib.Core.List.{List, map}
use Prim.Native.Nat.{ℕ, ◌+◌, ◌≤◌, max}
use native.Mathlib.Omega.{arith}
use lib.Dec.{leb, ltb, eqb}
use lib.ListN.{length, length-map}
use borrow.Author.Tests.{not-true, eqb-true, ne_eqb, eqb-false, le-leb, leb-true}
use Rattle.rules.specs.Base.{keep, rising}
use Rattle.rules.specs.Sets.{Set}
use Rattle.rules.specs.Window.{Limits, LogRecord, PermitRecord, Window, permit_key, live, running}
use Rattle.rules.specs.Locks.{clashes_permitted, unite_permits, add_permit}
use Rattle.rules.specs.Sound.{held_sound, record_sound, permit_sound}
use Rattle.rules.specs.Effects.{move_held, moved_record, move_log, permit_given, permit_moves, permit_kept, moved_permit, move_permits, hand_over}
use Rattle.rules.proofs.BaseLaws.{Same, same, other, same?, or_right, or_cases, and_both, and_left, and_right, never, eqb_same, over_less}
use Rattle.rules.proofs.ListLaws.{all_map, all_keep, length-parts}
use Rattle.rules.proofs.SortLaws.{rising-keep, all_inserts, inserts_rising, length_inserts}
use Rattle.rules.proofs.SoundParts.{Sound, record_parts, permit_parts, fits_all, held_most}
use Rattle.rules.proofs.SoundPermit.{unite_key, unite_sound}

-- the greater of two locks
held-max : (a b : ℕ) (i l n : Bool) → leb a 2 && (eqb a 0 || (i && l)) ≡ true → leb b 2 && (eqb b 0 || (i && n)) ≡ true → n ≡ true
    → leb (max a b) 2 && (eqb (max a b) 0 || (i && n)) ≡ true
held-max a b i l n p q t = and_both (leb (max a b) 2) (eqb (max a b) 0 || (i && n))
    (le-leb (max a b) 2 (omega (arith, leb-true a 2 (and_left (leb a 2) _ p), leb-true b 2 (and_left (leb b 2) _ q))))
    (⊎_elim (λ z. let r : max a b ≡ b = omega (arith, eqb-true a 0 z) in rw r (and_right (leb b 2) (eqb b 0 || (i && n)) q))
    (λ y. or_right (eqb (max a b) 0) (i && n) (and_both i n (and_left i l y) t))
    (or_cases (eqb a 0) (i && l) (and_right (leb a 2) (eqb a 0 || (i && l)) p)))

-- no permit both moves and stays
pub hand_parts : (from to : ℕ) (on : Set) (ps : List PermitRecord) → length (keep (permit_moves from to on) ps) + length (keep (permit_kept from on) ps) ≤ length ps
unfolding permit_moves permit_kept
hand_parts from to on = length-parts (permit_moves from to on) (permit_kept from on) (λ p a b. never (permit_given from on p) (and_left (permit_given from on p) (not (eqb p.taker to)) a) b)

pub hand_room : (from to : ℕ) (on : Set) (ps : List PermitRecord) → length (move_permits from to on ps) ≤ length ps
unfolding move_permits add_permit
hand_room from to on ps = omega (
  arith,
  (length_inserts permit_key unite_permits (map (moved_permit to) (keep (permit_moves from to on) ps)) (keep (permit_kept from on) ps)).1,
  length-map (keep (permit_moves from to on) ps) (moved_permit to),
  hand_parts from to on ps,
)

pub hand_order : (from to : ℕ) (on : Set) (ps : List PermitRecord) → rising permit_key ps ≡ true → rising permit_key (move_permits from to on ps) ≡ true
unfolding move_permits add_permit
hand_order from to on ps e = inserts_rising permit_key unite_permits unite_key (map (moved_permit to) (keep (permit_moves from to on) ps)) (keep (permit_kept from on) ps) (rising-keep permit_key (permit_kept from on) ps e)

module _ (L : Limits) (W : Window) (from to : ℕ) (on : Set) (k : Sound L W) (lives : live W to ≡ true) where
  pub hand_held : (e c : ℕ) → held_sound W.entries (live W) (hand_over W from to on).held e c ≡ true
  unfolding held_sound hand_over move_held
  hand_held e c = go (on e) (same? c to) (same? c from)
    where
      go : (h : Bool) {x y : Bool} → Same c to x → Same c from y → (let m = cond h (cond x (max (W.held e from) (W.held e to)) (cond y 0 (W.held e c))) (W.held e c) in
          leb m 2 && (eqb m 0 || (ltb e W.entries && live W c))) ≡ true
      go false x y = k.helds e c
      go true (same i) y = rw i (held-max (W.held e from) (W.held e to) (ltb e W.entries) (live W from) (live W to) (k.helds e from) (k.helds e to) lives)
      go true (other n) (same j) = refl
      go true (other n) (other o) = k.helds e c

  hand_record : (r : LogRecord) → record_sound W.entries (live W) W.held r ≡ true → record_sound W.entries (live W) (hand_over W from to on).held (moved_record from to on r) ≡ true
  unfolding record_sound hand_over move_held moved_record
  hand_record r h = go (same? r.owner from) (same? r.owner to) (on r.entry) refl
    where
      x : (live W r.owner ≡ true) × (ltb r.entry W.entries ≡ true) × (ltb r.before 4294967296 ≡ true) × (eqb (W.held r.entry r.owner) 2 ≡ true)
      x = record_parts W.entries (live W) W.held r h

      two : W.held r.entry r.owner ≡ 2
      two = eqb-true (W.held r.entry r.owner) 2 x.3

      most : (c : ℕ) → W.held r.entry c ≤ 2
      most = held_most W k.helds r.entry

      go : {a b : Bool} → Same r.owner from a → Same r.owner to b → (z : Bool) → on r.entry ≡ z
          → record_sound W.entries (live W) (hand_over W from to on).held (cond (a && z) (record { owner = to; entry = r.entry; before = r.before }) r) ≡ true
      go (same i) b true q = let g : max (W.held r.entry from) (W.held r.entry to) ≡ 2 = omega (arith, rw i at two, most to) in rw (lives, x.1, x.2, q, eqb_same to, g)
      go (same i) b false q = rw (q, x.0, x.1, x.2, x.3)
      go (other n) (same j) true q = let g : max (W.held r.entry from) (W.held r.entry to) ≡ 2 = omega (arith, rw j at two, most from) in rw (x.0, x.1, x.2, q, j, eqb_same to, g)
      go (other n) (same j) false q = rw (q, x.0, x.1, x.2, x.3)
      go (other n) (other o) true q = rw (q, ne_eqb r.owner to o, ne_eqb r.owner from n, x.0, x.1, x.2, x.3)
      go (other n) (other o) false q = rw (q, x.0, x.1, x.2, x.3)

  hand_permit : (p : PermitRecord) → permit_sound W.entries (live W) p ≡ true → permit_moves from to on p ≡ true → permit_sound W.entries (live W) (moved_permit to p) ≡ true
  unfolding permit_moves moved_permit permit_sound
  hand_permit p h g = let x = permit_parts W.entries (live W) p h in
      let n : to ≢ p.taker = λ q. eqb-false p.taker to (not-true (eqb p.taker to) (and_right (permit_given from on p) (not (eqb p.taker to)) g)) (sym q) in
      rw (lives, x.1, x.2, x.3, ne_eqb to p.taker n)

  pub hand_sound : clashes_permitted (hand_over W from to on) ≡ true → Sound L (hand_over W from to on)
  unfolding hand_over move_log live running move_permits add_permit
  hand_sound fit = record {
    some = k.some;
    entries = k.entries;
    changes = k.changes;
    room_log = rw (length-map W.log (moved_record from to on)) k.room_log;
    room_permits = over_less (length W.permits) (length (move_permits from to on W.permits)) L.permits (hand_room from to on W.permits) k.room_permits;
    room_ties = k.room_ties;
    values = k.values;
    statuses = k.statuses;
    parents = k.parents;
    helds = hand_held;
    records = all_map _ (record_sound W.entries (live W) W.held) (moved_record from to on) hand_record W.log k.records;
    permits = all_inserts permit_key unite_permits (permit_sound W.entries (live W)) (unite_sound W.entries (live W)) (map (moved_permit to) (keep (permit_moves from to on) W.permits)) (keep (permit_kept from on) W.permits)
        (all_map (permit_sound W.entries (live W)) (λ p. permit_sound W.entries (live W) (moved_permit to p)) (moved_permit to) (λ p h. h) (keep (permit_moves from to on) W.permits) (all_keep (permit_sound W.entries (live W)) (permit_moves from to on) _ hand_permit W.permits k.permits))
        (all_keep (permit_sound W.entries (live W)) (permit_kept from on) _ (λ p a b. a) W.permits k.permits);
    ties = k.ties;
    permit_order = hand_order from to on W.permits k.permit_order;
    tie_order = k.tie_order;
    no_cycle_lem = k.no_cycle_lem;
    locks = fits_all (hand_over W from to on) hand_held fit;
    room_line = k.room_line;
    line = k.line;
    line-once = k.line-once;
  }
