-- A lock that is granted keeps a window sound. Assumes nothing.
use mathlib.Core.Path.{◌≡◌, refl, sym, ◌∙◌}
use mathlib.Core.Logic.{◌⊎◌, inl, inr, ⊎_elim, ◌≢◌}
use mathlib.Core.Bool.{Bool, true, false, not, cond, ◌&&◌, ◌||◌, false≢true, or-true}
use Prim.Native.Nat.{ℕ, suc}
use lib.Dec.{leb, ltb, eqb}
use borrow.Author.Tests.{eqb-true}
use Rattle.rules.specs.Base.{put2}
use Rattle.rules.specs.Window.{Limits, LogRecord, Window, with_held, live, running}
use Rattle.rules.specs.Locks.{clash, permitted, clashing, blocker_of}
use Rattle.rules.specs.Line.{other_first}
use Rattle.rules.specs.Sound.{held_sound, record_sound}
use Rattle.rules.specs.Effects.{lock_blocker, in_the_way, lock_granted, put_held}
use Rattle.rules.proofs.BaseLaws.{Below, under, over as beyond, below, Same, same, other, same?, eqb_same, or_left, or_right}
use Rattle.rules.proofs.ListLaws.{all_weaken}
use Rattle.rules.proofs.PairLaws.{pair_permitted, clash_swap, others_permit}
use Rattle.rules.proofs.SoundParts.{Sound, held-nobody, clash_left, held-no_change, record_parts}

-- no holder is in the way of a lock that is granted
pub granted_free : (W : Window) (c e m : ℕ) → lock_granted W c e m ≡ true → lock_blocker W c e m ≡ 0
unfolding lock_granted in_the_way
granted_free W c e m g = go (same? (lock_blocker W c e m) 0) (eqb-true _ 0 g)
  where
    go : {b : Bool} → Same (lock_blocker W c e m) 0 b → cond b (other_first W.line c e) (lock_blocker W c e m) ≡ 0 → lock_blocker W c e m ≡ 0
    go (same q) h = q
    go (other n) h = h

-- what a lock in whose way no holder is knows of each other holder
module _ (L : Limits) (W : Window) (k : Sound L W) (c e m : ℕ) (free : lock_blocker W c e m ≡ 0) where
  pub grant : (d : ℕ) → d ≢ c → (not (clash (W.held e d) m) ≡ true) ⊎ (permitted W.permits d c e m ≡ true)
  unfolding lock_blocker blocker_of clashing
  grant d n = go (clash (W.held e d) m) refl (below d (suc W.given))
    where
      nobody : clash (W.held e 0) m ≡ false
      nobody = rw (held-nobody W k.helds (k.statuses 0) e) (clash_left m)

      go : (b : Bool) → clash (W.held e d) m ≡ b → {x : Bool} → Below d (suc W.given) x → (not b ≡ true) ⊎ (permitted W.permits d c e m ≡ true)
      go false q h = inl refl
      go true q (under h) = inr (others_permit (suc W.given) (clashing W e m) (λ x. permitted W.permits x c e m) c nobody free d h n q)
      go true q (beyond h) = absurd (false≢true (sym (clash_left m) ∙ rw (held-no_change W k.helds e d h) at q))

module _ (L : Limits) (W : Window) (c e m : ℕ) (k : Sound L W)
    (mode : leb m 2 ≡ true) (entry : ltb e W.entries ≡ true) (lives : live W c ≡ true) (short : leb m (W.held e c) ≡ false) (free : lock_blocker W c e m ≡ 0) where
  lock_pair : (x a b : ℕ) → pair_permitted (put_held W e c m) x a b ≡ true
  unfolding pair_permitted put_held with_held put2
  lock_pair x a b = go (same? x e) (same? a c) (same? b c)
    where
      second : (p q r s : Bool) → q ≡ true → p || q || r || s ≡ true
      second p q r s h = or_left (p || q || r) s (or_left (p || q) r (or_right p q h))

      third : (p q r s : Bool) → r ≡ true → p || q || r || s ≡ true
      third p q r s h = or_left (p || q || r) s (or_right (p || q) r h)

      go : {p q r : Bool} → Same x e p → Same a c q → Same b c r
          → eqb a b || not (clash (cond (p && q) m (W.held x a)) (cond (p && r) m (W.held x b))) || permitted W.permits a b x (cond (p && r) m (W.held x b))
          || permitted W.permits b a x (cond (p && q) m (W.held x a)) ≡ true
      go (other n) q r = k.locks x a b
      go (same i) (other n) (other o) = k.locks x a b
      go (same i) (same j) (same l) = or_left _ _ (or_left _ _ (or_left (eqb a b) _ (rw (j, l) (eqb_same c))))
      go (same i) (same j) (other o) = ⊎_elim
          (λ f. second (eqb a b) _ _ _ (rw (i, clash_swap m) f))
          (λ f. or_right (eqb a b || not (clash m (W.held x b)) || permitted W.permits a b x (W.held x b)) _ (rw (i, j) f)) (grant L W k c e m free b o)
      go (same i) (other n) (same l) = ⊎_elim (λ f. second (eqb a b) _ _ _ (rw i f)) (λ f. third (eqb a b) _ _ _ (rw (i, l) f)) (grant L W k c e m free a n)

  lock_held : (x d : ℕ) → held_sound W.entries (live W) (put_held W e c m).held x d ≡ true
  unfolding held_sound put_held with_held put2
  lock_held x d = go (same? x e) (same? d c)
    where
      go : {p q : Bool} → Same x e p → Same d c q
          → leb (cond (p && q) m (W.held x d)) 2 && (eqb (cond (p && q) m (W.held x d)) 0 || (ltb x W.entries && live W d)) ≡ true
      go (same i) (same j) = rw (mode, i, j, entry, lives) (or-true (eqb m 0))
      go (same i) (other n) = k.helds x d
      go (other n) q = k.helds x d

  lock_record : (r : LogRecord) → record_sound W.entries (live W) W.held r ≡ true → record_sound W.entries (live W) (put_held W e c m).held r ≡ true
  unfolding record_sound put_held with_held put2
  lock_record r h = go (same? r.entry e) (same? r.owner c)
    where
      two : r.entry ≡ e → r.owner ≡ c → W.held e c ≡ 2
      two i j = rw (i, j) at (eqb-true (W.held r.entry r.owner) 2 (record_parts W.entries (live W) W.held r h).3)

      go : {p q : Bool} → Same r.entry e p → Same r.owner c q
          → live W r.owner && ltb r.entry W.entries && ltb r.before 4294967296 && eqb (cond (p && q) m (W.held r.entry r.owner)) 2 ≡ true
      go (other n) q = h
      go (same i) (other n) = h
      go (same i) (same j) = absurd (false≢true (sym short ∙ rw (two i j) mode))

  pub lock_sound : Sound L (put_held W e c m)
  unfolding put_held with_held live running
  lock_sound = record {
    some = k.some;
    entries = k.entries;
    changes = k.changes;
    room_log = k.room_log;
    room_permits = k.room_permits;
    room_ties = k.room_ties;
    values = k.values;
    statuses = k.statuses;
    parents = k.parents;
    helds = lock_held;
    records = all_weaken (record_sound W.entries (live W) W.held) _ lock_record W.log k.records;
    permits = k.permits;
    ties = k.ties;
    permit_order = k.permit_order;
    tie_order = k.tie_order;
    no_cycle_lem = k.no_cycle_lem;
    locks = lock_pair;
    room_line = k.room_line;
    line = k.line;
    line-once = k.line-once;
  }
