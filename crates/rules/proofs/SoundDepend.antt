-- A tie that closes no cycle keeps a window sound. Assumes nothing.
use mathlib.Core.Path.{◌≡◌, refl}
use mathlib.Core.Logic.{◌≢◌}
use mathlib.Core.Bool.{Bool, true, false, not, cond}
use Prim.Native.Nat.{ℕ, suc, ◌<◌, min, max}
use native.Mathlib.Omega.{arith}
use lib.Dec.{eqb}
use lib.ListN.{length}
use borrow.Author.Tests.{lt-ltb, ne_eqb, eqb-false}
use Rattle.rules.specs.Base.{exceeds, outside}
use Rattle.rules.specs.Sets.{Set}
use Rattle.rules.specs.Window.{Limits, TieRecord, Window, tie_key, with_ties, live, running}
use Rattle.rules.specs.Ties.{acyclic, add_tie, make_tie, is_group}
use Rattle.rules.specs.Sound.{tie_sound}
use Rattle.rules.proofs.BaseLaws.{Below, under, over as beyond, below, Same, same, other, same?}
use Rattle.rules.proofs.PairLaws.{pair_permitted}
use Rattle.rules.proofs.SortLaws.{all_insert, insert-rising}
use Rattle.rules.proofs.SoundParts.{Sound}

pub make_sound : (lives : Set) (k l f : ℕ) → outside 1 3 k ≡ false → eqb l f ≡ false → lives l ≡ true → lives f ≡ true → tie_sound lives (make_tie k l f) ≡ true
unfolding tie_sound make_tie is_group outside
make_sound lives k l f r a hl hf = go (same? k 3) (below l f)
  where
    apart : l ≢ f
    apart = eqb-false l f a

    lower : (x y : ℕ) → lives x ≡ true → lives y ≡ true → x < y → tie_sound lives (record { kind = 3; leader = x; follower = y }) ≡ true
    lower x y hx hy h = rw (hx, hy, ne_eqb x y (omega arith), lt-ltb x y h)

    go : {b d : Bool} → Same k 3 b → Below l f d → tie_sound lives (cond b (record { kind = 3; leader = min l f; follower = max l f }) (record { kind = k; leader = l; follower = f })) ≡ true
    go (same e) (under h) = let q : min l f ≡ l = omega arith in let s : max l f ≡ f = omega arith in rw (q, s) (lower l f hl hf h)
    go (same e) (beyond h) = let q : min l f ≡ f = omega arith in let s : max l f ≡ l = omega arith in rw (q, s) (lower f l hf hl (omega (arith, apart)))
    go (other n) q = rw (r, hl, hf, a, ne_eqb k 3 n)

pub depend_sound : (L : Limits) (W : Window) (t : TieRecord) → tie_sound (live W) t ≡ true → acyclic (suc W.given) (add_tie t W.ties) ≡ true
    → not (exceeds (length (add_tie t W.ties)) L.ties) ≡ true → Sound L W → Sound L (with_ties W (add_tie t W.ties))
unfolding with_ties live running pair_permitted add_tie
depend_sound L W t s a r k = record {
  some = k.some;
  entries = k.entries;
  changes = k.changes;
  room_log = k.room_log;
  room_permits = k.room_permits;
  room_ties = r;
  values = k.values;
  statuses = k.statuses;
  parents = k.parents;
  helds = k.helds;
  records = k.records;
  permits = k.permits;
  ties = all_insert tie_key (λ x y. y) (tie_sound (live W)) t s (λ y h. h) W.ties k.ties;
  permit_order = k.permit_order;
  tie_order = insert-rising tie_key (λ x y. y) (λ x y. refl) t W.ties k.tie_order;
  no_cycle_lem = a;
  locks = k.locks;
  room_line = k.room_line;
  line = k.line;
  line-once = k.line-once;
}
