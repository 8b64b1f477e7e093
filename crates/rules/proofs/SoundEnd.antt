-- Ending a set of live changes keeps a window sound. Assumes nothing.
use mathlib.Core.Path.{◌≡◌, refl, sym, ◌∙◌, ap, fun_ext}
use mathlib.Core.Logic.{⊎_elim}
use mathlib.Core.Bool.{Bool, true, false, not, cond, ◌&&◌, ◌||◌, false≢true, or-true, and-false}
use Prim.Native.Nat.{ℕ, suc}
use lib.Dec.{leb, ltb, eqb}
use borrow.Author.Tests.{not-true, eqb-true}
use Rattle.rules.specs.Base.{outside}
use Rattle.rules.specs.Sets.{Set, put_all}
use Rattle.rules.specs.Window.{Limits, LogRecord, PermitRecord, TieRecord, LineRecord, Window, permit_key, tie_key, with_permits, live, running, no_change}
use Rattle.rules.specs.Locks.{permitted, contains, clash}
use Rattle.rules.specs.Line.{stays_in_line, line_left}
use Rattle.rules.specs.Sound.{status_sound, held_sound, record_sound, permit_sound, tie_sound, waiter_sound}
use Rattle.rules.specs.Effects.{released, is_unowned, unowned, permit_stays, permits_left, tie_stays, ties_left, end_all}
use Rattle.rules.proofs.BaseLaws.{or_cases, and_left, and_right, no_true, or_none}
use Rattle.rules.proofs.LineLaws.{distinct-keep}
use Rattle.rules.proofs.ListLaws.{all_keep, any-keep_up, fewer}
use Rattle.rules.proofs.PairLaws.{pair_permitted}
use Rattle.rules.proofs.PathLaws.{acyclic-keep}
use Rattle.rules.proofs.SortLaws.{rising-keep}
use Rattle.rules.proofs.SoundParts.{Sound, clash_left, clash_right, live_zero, live-change, fits_on, ends_below_lem}

-- who lives on when the changes of a set end
unfoldable pub left : Window → Set → Set
left W s c = not (s c) && live W c

pub live_end : (W : Window) (how : ℕ) (s : Set) → outside 1 3 how ≡ true → live (end_all how s W) ≡ left W s
unfolding live end_all put_all left
live_end W how s ended = fun_ext (λ c. go c (s c))
  where
    go : (c : ℕ) (b : Bool) → ltb c (suc W.given) && not (outside 1 3 (cond b how (W.status c))) ≡ not b && (ltb c (suc W.given) && not (outside 1 3 (W.status c)))
    go c true = rw ended (and-false (ltb c (suc W.given)))
    go c false = refl

module _ (L : Limits) (W : Window) (how : ℕ) (s : Set) (ended : outside 1 3 how ≡ true) (ranged : outside 1 5 how ≡ false)
    (lives : (c : ℕ) → s c ≡ true → live W c ≡ true) (k : Sound L W) where
  none : s 0 ≡ false
  none = no_true (s 0) (λ e. false≢true (sym (live_zero L W k) ∙ lives 0 e))

  end_statuses : (c : ℕ) → status_sound W.given (λ d. cond (s d) how (W.status d)) c ≡ true
  unfolding status_sound no_change
  end_statuses c = go (s c) refl
    where
      go : (b : Bool) → s c ≡ b → cond (no_change W c) (eqb (cond b how (W.status c)) 0) (not (outside 1 5 (cond b how (W.status c)))) ≡ true
      go true f = rw (live-change L W k c (lives c f), ranged)
      go false f = k.statuses c

  end_helds : (e c : ℕ) → held_sound W.entries (left W s) (released s W.held) e c ≡ true
  unfolding held_sound left released put_all
  end_helds e c = go (s c)
    where
      go : (b : Bool) → leb (cond b 0 (W.held e c)) 2 && (eqb (cond b 0 (W.held e c)) 0 || (ltb e W.entries && (not b && live W c))) ≡ true
      go true = refl
      go false = k.helds e c

  end_record : (r : LogRecord) → record_sound W.entries (live W) W.held r ≡ true → is_unowned s r ≡ true → record_sound W.entries (left W s) (released s W.held) r ≡ true
  unfolding record_sound left released put_all is_unowned
  end_record r h q = rw (not-true (s r.owner) q) h

  end_permit : (p : PermitRecord) → permit_sound W.entries (live W) p ≡ true → permit_stays s p ≡ true → permit_sound W.entries (left W s) p ≡ true
  unfolding permit_sound left permit_stays
  end_permit p h q = let n = or_none (s p.giver) (s p.taker) (not-true _ q) in rw (n.0, n.1) h

  end_tie : (t : TieRecord) → tie_sound (live W) t ≡ true → tie_stays s t ≡ true → tie_sound (left W s) t ≡ true
  unfolding tie_sound left tie_stays
  end_tie t h q = let n = or_none (s t.leader) (s t.follower) (not-true _ q) in rw (n.0, n.1) h

  end_waiter : (r : LineRecord) → waiter_sound W.entries (running W) r ≡ true → stays_in_line s r ≡ true → waiter_sound W.entries (running (end_all how s W)) r ≡ true
  unfolding waiter_sound running end_all put_all stays_in_line
  end_waiter r h q = rw (not-true (s r.change) q) h

  -- a permit from one that lives on, to one that lives on or to anybody, stays
  end_permitted : (a b e m : ℕ) → s a ≡ false → s b ≡ false → permitted W.permits a b e m ≡ true → permitted (permits_left s W.permits) a b e m ≡ true
  unfolding permitted permits_left permit_stays
  end_permitted a b e m ha hb = any-keep_up _ (permit_stays s) (λ p h. go p (and_left (eqb p.giver a && (eqb p.taker b || eqb p.taker 0)) _ (and_left _ (contains p.ops m) h))) W.permits
    where
      go : (p : PermitRecord) → eqb p.giver a && (eqb p.taker b || eqb p.taker 0) ≡ true → permit_stays s p ≡ true
      go p x = rw (ap s (eqb-true p.giver a (and_left (eqb p.giver a) (eqb p.taker b || eqb p.taker 0) x)) ∙ ha)
          (⊎_elim (λ z. ap not (ap s (eqb-true p.taker b z) ∙ hb)) (λ z. ap not (ap s (eqb-true p.taker 0 z) ∙ none)) (or_cases (eqb p.taker b) (eqb p.taker 0) (and_right (eqb p.giver a) (eqb p.taker b || eqb p.taker 0) x)))

  end_pair : (e a b : ℕ) → pair_permitted (end_all how s W) e a b ≡ true
  unfolding pair_permitted end_all with_permits released put_all permits_left
  end_pair e a b = go (s a) (s b) refl refl
    where
      go : (x y : Bool) → s a ≡ x → s b ≡ y
          → eqb a b || not (clash (cond x 0 (W.held e a)) (cond y 0 (W.held e b))) || permitted (permits_left s W.permits) a b e (cond y 0 (W.held e b)) || permitted (permits_left s W.permits) b a e (cond x 0 (W.held e a)) ≡ true
      go true y p q = rw (clash_left, or-true)
      go false true p q = rw (clash_right, or-true)
      go false false p q = fits_on W (permits_left s W.permits) e a b (end_permitted a b e (W.held e b) p q) (end_permitted b a e (W.held e a) q p) (k.locks e a b)

  pub end_sound : Sound L (end_all how s W)
  unfolding end_all put_all unowned permits_left ties_left line_left
  end_sound = record {
    some = k.some;
    entries = k.entries;
    changes = k.changes;
    room_log = fewer _ W.log L.records k.room_log;
    room_permits = fewer _ W.permits L.permits k.room_permits;
    room_ties = fewer _ W.ties L.ties k.room_ties;
    values = k.values;
    statuses = end_statuses;
    parents = k.parents;
    helds = rw (live_end W how s ended) end_helds;
    records = rw (live_end W how s ended) (all_keep (record_sound W.entries (live W) W.held) (is_unowned s) (record_sound W.entries (left W s) (released s W.held)) end_record W.log k.records);
    permits = rw (live_end W how s ended) (all_keep (permit_sound W.entries (live W)) (permit_stays s) (permit_sound W.entries (left W s)) end_permit W.permits k.permits);
    ties = rw (live_end W how s ended) (all_keep (tie_sound (live W)) (tie_stays s) (tie_sound (left W s)) end_tie W.ties k.ties);
    permit_order = rising-keep permit_key (permit_stays s) W.permits k.permit_order;
    tie_order = rising-keep tie_key (tie_stays s) W.ties k.tie_order;
    no_cycle_lem = acyclic-keep (suc W.given) W.ties (ends_below_lem W k.ties) k.no_cycle_lem (tie_stays s);
    locks = end_pair;
    room_line = fewer _ W.line L.changes k.room_line;
    line = all_keep (waiter_sound W.entries (running W)) (stays_in_line s) (waiter_sound W.entries (running (end_all how s W))) end_waiter W.line k.line;
    line-once = distinct-keep (λ r. r.change) (stays_in_line s) W.line k.line-once;
  }
