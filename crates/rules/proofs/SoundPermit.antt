-- A permit given keeps a window sound. Assumes nothing.
use mathlib.Core.Path.{◌≡◌, refl}
use mathlib.Core.Bool.{Bool, true, false, not, cond, ◌&&◌, ◌||◌, or-true}
use mathlib.Core.List.{List}
use Prim.Native.Nat.{ℕ}
use lib.Dec.{eqb}
use lib.ListN.{length}
use Rattle.rules.specs.Base.{exceeds, outside}
use Rattle.rules.specs.Sets.{Set}
use Rattle.rules.specs.Window.{Limits, PermitRecord, Window, permit_key, with_permits, live, running}
use Rattle.rules.specs.Locks.{contains, permitted, unite_permits, add_permit}
use Rattle.rules.specs.Sound.{permit_sound}
use Rattle.rules.proofs.BaseLaws.{and_map}
use Rattle.rules.proofs.SortLaws.{all_insert, insert-rising, any-insert}
use Rattle.rules.proofs.SoundParts.{Sound, permit_parts, fits_on}

-- the united permit stands in the old one's place
pub unite_key : (p q : PermitRecord) → permit_key (unite_permits p q) ≡ permit_key q
unfolding permit_key unite_permits
unite_key p q = refl

pub unite_sound : (m : ℕ) (lives : Set) (p q : PermitRecord) → permit_sound m lives q ≡ true → permit_sound m lives (unite_permits p q) ≡ true
unfolding permit_sound unite_permits outside
unite_sound m lives p q h = go (contains q.ops p.ops)
  where
    go : (b : Bool) → permit_sound m lives (record { giver = q.giver; taker = q.taker; entry = q.entry; ops = cond b q.ops 3 }) ≡ true
    go true = h
    go false = let x = permit_parts m lives q h in rw (x.0, x.1, x.2, x.4)

-- it contains what the old one did
unite_contains : (p q : PermitRecord) (m : ℕ) → contains q.ops m ≡ true → contains (unite_permits p q).ops m ≡ true
unfolding unite_permits contains
unite_contains p q m h = go (contains q.ops p.ops)
  where
    go : (b : Bool) → contains (cond b q.ops 3) m ≡ true
    go true = h
    go false = or-true (eqb 3 m)

pub permitted_add : (p : PermitRecord) (ps : List PermitRecord) (a b e m : ℕ) → permitted ps a b e m ≡ true → permitted (add_permit p ps) a b e m ≡ true
unfolding permitted add_permit unite_permits
permitted_add p ps a b e m = any-insert permit_key unite_permits _ p
    (λ q. and_map (eqb q.giver a && (eqb q.taker b || eqb q.taker 0) && eqb q.entry e) (contains q.ops m) _ _ (λ x. x) (unite_contains p q m)) ps

pub permit_sound_lem : (L : Limits) (W : Window) (p : PermitRecord) → permit_sound W.entries (live W) p ≡ true → not (exceeds (length (add_permit p W.permits)) L.permits) ≡ true
    → Sound L W → Sound L (with_permits W (add_permit p W.permits))
unfolding with_permits live running add_permit
permit_sound_lem L W p s r k = record {
  some = k.some;
  entries = k.entries;
  changes = k.changes;
  room_log = k.room_log;
  room_permits = r;
  room_ties = k.room_ties;
  values = k.values;
  statuses = k.statuses;
  parents = k.parents;
  helds = k.helds;
  records = k.records;
  permits = all_insert permit_key unite_permits (permit_sound W.entries (live W)) p s (unite_sound W.entries (live W) p) W.permits k.permits;
  ties = k.ties;
  permit_order = insert-rising permit_key unite_permits unite_key p W.permits k.permit_order;
  tie_order = k.tie_order;
  no_cycle_lem = k.no_cycle_lem;
  locks = λ e a b. fits_on W (add_permit p W.permits) e a b (permitted_add p W.permits a b e (W.held e b)) (permitted_add p W.permits b a e (W.held e a)) (k.locks e a b);
  room_line = k.room_line;
  line = k.line;
  line-once = k.line-once;
}
