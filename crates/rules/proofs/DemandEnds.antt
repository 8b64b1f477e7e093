-- Which changes a call ends, and what becomes of the ties. Assumes nothing.
use mathlib.Core.Path.{◌≡◌, refl, sym, ◌∙◌, ap}
use mathlib.Core.Logic.{◌⊎◌, inl, inr, ⊎_elim}
use mathlib.Core.Bool.{Bool, true, false, not, cond, ◌&&◌, ◌||◌, false≢true, true≢false}
use mathlib.Core.List.{List}
use Prim.Native.Nat.{ℕ, suc, min, max}
use native.Mathlib.Omega.{arith}
use lib.Dec.{eqb}
use borrow.Author.Tests.{eqb-true}
use Rattle.rules.specs.Base.{put, any_below, outside}
use Rattle.rules.specs.Sets.{Set, put_all, reach}
use Rattle.rules.specs.Window.{Limits, TieRecord, Window, tie_key, with_value, with_held, with_line, with_permits, with_ties, is_ended, live, no_change, with_log}
use Rattle.rules.specs.Ties.{is_group, is_fall, is_arrow, tied, grouped, falling, make_tie, add_tie, group_of, end_set}
use Rattle.rules.specs.Effects.{commit_blockers, tie_stays, ties_left, end_all, add_change, hand_over, withdraw}
use Rattle.rules.specs.Events.{Action, is_tying, is_opening}
use Rattle.rules.proofs.BaseLaws.{or_left, or_right, or_map, and_left, and_right, eqb_same, Same, same, other, same?, Below, under, over, below}
use Rattle.rules.proofs.DemandMoves.{shown_status, Calm, Move, opened, started, calm, locked, granted, handed, depended, committed, aborted}
use Rattle.rules.proofs.ListLaws.{any-keep_up}
use Rattle.rules.proofs.Promises.{free_of}
use Rattle.rules.proofs.SetLaws.{reach-closed}
use Rattle.rules.proofs.SortLaws.{any-insert, any-insert_new}
use Rattle.rules.proofs.SoundParts.{live_below, Sound, live-change}
use Rattle.rules.proofs.SoundPlain.{live-start}
use Rattle.rules.proofs.SoundStep.{group_live, fall_live}
use Rattle.rules.proofs.TieLaws.{tied_kinds}

abbrev pub of_kind : ℕ → ℕ → Bool
of_kind k j = eqb j k

-- the call ends s, all in one way; of the others the ended stay as they were, and the live live on
pub record Ending (W X : Window) (s : Set) (how : ℕ) : Type 0 where
  pub way : (how ≡ 4) ⊎ (how ≡ 5)
  pub ends : (c : ℕ) → s c ≡ true → (live W c ≡ true) × (shown_status X c ≡ how)
  pub stays : (c : ℕ) → s c ≡ false → is_ended (shown_status W c) ≡ true → shown_status X c ≡ shown_status W c
  pub fewer : (c : ℕ) → s c ≡ false → is_ended (shown_status X c) ≡ true → is_ended (shown_status W c) ≡ true
  pub on : (c : ℕ) → s c ≡ false → live W c ≡ true → live X c ≡ true
  pub ties : (k : ℕ → Bool) (l f : ℕ) → s l ≡ false → s f ≡ false → tied W.ties k l f ≡ true → tied X.ties k l f ≡ true
  pub together : (a b : ℕ) → live W a ≡ true → live W b ≡ true → grouped W.ties a b ≡ true → s a ≡ true → s b ≡ true
  pub unled : (k l f : ℕ) → is_arrow k ≡ true → tied W.ties (of_kind k) l f ≡ true → how ≡ 4 → s f ≡ true → ⊥
  pub fallen : (l f : ℕ) → live W l ≡ true → live W f ≡ true → tied W.ties (of_kind 2) l f ≡ true → how ≡ 5 → s l ≡ true → s f ≡ true

pub how_ended : {W X : Window} {s : Set} {how : ℕ} → Ending W X s how → is_ended how ≡ true
unfolding is_ended
how_ended P = ⊎_elim (λ q. rw q) (λ q. rw q) P.way

-- two that go on stay grouped
pub grouped_stays : {W X : Window} {s : Set} {how : ℕ} → Ending W X s how → (l f : ℕ) → s l ≡ false → s f ≡ false → grouped W.ties l f ≡ true → grouped X.ties l f ≡ true
unfolding grouped
grouped_stays {W} P l f hl hf = or_map (tied W.ties is_group l f) _ _ _ (P.ties is_group l f hl hf) (P.ties is_group f l hf hl)

abbrev pub none : Set
none c = false

-- nobody ends
quietly : (W X : Window) → ((c : ℕ) → is_ended (shown_status W c) ≡ true → shown_status X c ≡ shown_status W c) → ((c : ℕ) → is_ended (shown_status X c) ≡ true → is_ended (shown_status W c) ≡ true)
    → ((c : ℕ) → live W c ≡ true → live X c ≡ true) → ((k : ℕ → Bool) (l f : ℕ) → tied W.ties k l f ≡ true → tied X.ties k l f ≡ true) → Ending W X none 4
quietly W X a b c d = record {
  way = inl refl;
  ends = λ x e. absurd (false≢true e);
  stays = λ x e. a x;
  fewer = λ x e. b x;
  on = λ x e. c x;
  ties = λ k l f p q. d k l f;
  together = λ x y p q r e. absurd (false≢true e);
  unled = λ k l f p r h e. false≢true e;
  fallen = λ l f p q r h e. absurd (false≢true e);
}

-- one tie more
pub tie_old : (t : TieRecord) (ts : List TieRecord) (k : ℕ → Bool) (l f : ℕ) → tied ts k l f ≡ true → tied (add_tie t ts) k l f ≡ true
unfolding tied add_tie
tie_old t ts k l f = any-insert tie_key (λ x y. y) _ t (λ y h. h) ts

pub tie_new : (t : TieRecord) (ts : List TieRecord) (k : ℕ → Bool) → k t.kind ≡ true → tied (add_tie t ts) k t.leader t.follower ≡ true
unfolding tied add_tie tie_key
tie_new t ts k e = any-insert_new tie_key (λ y. k y.k1 && eqb y.k2 t.leader && eqb y.k3 t.follower) t ts (rw (e, eqb_same t.leader, eqb_same t.follower))

module _ (L : Limits) (W : Window) (z : Sound L W) where
  -- a set of live changes ends
  module _ (how : ℕ) (s : Set) where
    end_ends : ((c : ℕ) → s c ≡ true → live W c ≡ true) → (c : ℕ) → s c ≡ true → (live W c ≡ true) × (shown_status (end_all how s W) c ≡ how)
    unfolding shown_status end_all put_all no_change
    end_ends inside c e = (inside c e, rw (live-change L W z c (inside c e), e))

    end_stays : (c : ℕ) → s c ≡ false → shown_status (end_all how s W) c ≡ shown_status W c
    unfolding shown_status end_all put_all no_change
    end_stays c e = rw e

    end_on : (c : ℕ) → s c ≡ false → live W c ≡ true → live (end_all how s W) c ≡ true
    unfolding live end_all put_all
    end_on c e h = rw e h

    end_ties : (k : ℕ → Bool) (l f : ℕ) → s l ≡ false → s f ≡ false → tied W.ties k l f ≡ true → tied (end_all how s W).ties k l f ≡ true
    unfolding tied end_all ties_left tie_stays
    end_ties k l f hl hf = any-keep_up _ _ (λ t h. stay t (and_left (k t.kind && eqb t.leader l) _ h) (and_right (k t.kind && eqb t.leader l) _ h)) W.ties
      where
        stay : (t : TieRecord) → k t.kind && eqb t.leader l ≡ true → eqb t.follower f ≡ true → not (s t.leader || s t.follower) ≡ true
        stay t p q = rw (eqb-true t.leader l (and_right (k t.kind) _ p), eqb-true t.follower f q, hl, hf)

  pub commit_ending : (c : ℕ) → live W c ≡ true → any_below (suc W.given) (commit_blockers W (group_of W c)) ≡ false → Ending W (end_all 4 (group_of W c) W) (group_of W c) 4
  unfolding group_of
  commit_ending c lc free = record {
    way = inl refl;
    ends = end_ends 4 g inside;
    stays = λ d e h. end_stays 4 g d e;
    fewer = λ d e h. ap is_ended (sym (end_stays 4 g d e)) ∙ h;
    on = end_on 4 g;
    ties = end_ties 4 g;
    together = λ a b la lb e h. reach-closed (suc W.given) (grouped W.ties) c a b (live_below W a la) (live_below W b lb) h e;
    unled = λ k l f a e q h. (free_of L W z c lc free).unled l f h (tied_kinds (of_kind k) is_arrow (λ x p. rw (eqb-true x k p) a) W.ties l f e);
    fallen = λ l f ll lf e q h. absurd (not_aborted q);
  }
    where
      g : Set
      g = reach (suc W.given) (grouped W.ties) c

      inside : (d : ℕ) → g d ≡ true → live W d ≡ true
      inside = unfold group_of in group_live L W z c lc

      not_aborted : ◌≡◌ {A = ℕ} 4 5 → ⊥
      not_aborted q = omega arith

  pub abort_ending : (c : ℕ) → live W c ≡ true → Ending W (end_all 5 (end_set W c) (withdraw (end_set W c) W)) (end_set W c) 5
  unfolding end_set end_all put_all withdraw with_value with_log shown_status live no_change falling is_fall
  abort_ending c lc = record {
    way = inr refl;
    ends = end_ends 5 g inside;
    stays = λ d e h. end_stays 5 g d e;
    fewer = λ d e h. ap is_ended (sym (end_stays 5 g d e)) ∙ h;
    on = end_on 5 g;
    ties = end_ties 5 g;
    together = λ a b la lb e h. closed a b la lb (or_left (grouped W.ties a b) _ e) h;
    unled = λ k l f a e q h. not_committed q;
    fallen = λ l f ll lf e q h. closed l f ll lf (or_right (grouped W.ties l f) _ e) h;
  }
    where
      g : Set
      g = reach (suc W.given) (falling W.ties) c

      inside : (d : ℕ) → g d ≡ true → live W d ≡ true
      inside = unfold end_set in fall_live L W z c lc

      closed : (a b : ℕ) → live W a ≡ true → live W b ≡ true → falling W.ties a b ≡ true → g a ≡ true → g b ≡ true
      closed a b la lb e h = reach-closed (suc W.given) (falling W.ties) c a b (live_below W a la) (live_below W b lb) h e

      not_committed : ◌≡◌ {A = ℕ} 5 4 → ⊥
      not_committed q = omega arith

  calm_ending : (X : Window) → Calm W X → Ending W X none 4
  calm_ending X q = quietly W X q.stay q.fewer q.on (λ k l f e. rw q.ties e)

  start_ending : (p : ℕ) → Ending W (add_change W p) none 4
  unfolding add_change shown_status live no_change put is_ended outside
  start_ending p = quietly W (add_change W p) (λ c. stays c (same? c 0) (same? c (suc W.given)) (below W.given c) (below (suc W.given) c))
      (λ c. few c (same? c 0) (same? c (suc W.given)) (below W.given c) (below (suc W.given) c))
      (live-start W p) (λ k l f e. e)
    where
      stays : (c : ℕ) {o a b d : Bool} → Same c 0 o → Same c (suc W.given) a → Below W.given c b → Below (suc W.given) c d
          → is_ended (cond (o || b) 0 (W.status c)) ≡ true → cond (o || d) 0 (cond a 1 (W.status c)) ≡ cond (o || b) 0 (W.status c)
      stays c (same i) a b d h = refl
      stays c (other i) a (under k) d h = absurd (false≢true h)
      stays c (other i) a (over k) (under j) h = absurd (omega arith)
      stays c (other i) (same q) (over k) (over j) h = absurd (omega arith)
      stays c (other i) (other q) (over k) (over j) h = refl

      few : (c : ℕ) {o a b d : Bool} → Same c 0 o → Same c (suc W.given) a → Below W.given c b → Below (suc W.given) c d
          → is_ended (cond (o || d) 0 (cond a 1 (W.status c))) ≡ true → is_ended (cond (o || b) 0 (W.status c)) ≡ true
      few c (same i) a b d h = h
      few c (other i) a b (under k) h = absurd (false≢true h)
      few c (other i) (same q) b (over j) h = absurd (false≢true h)
      few c (other i) (other q) (under k) (over j) h = absurd (omega arith)
      few c (other i) (other q) (over k) (over j) h = h

  -- nobody ends where numbers and statuses stay and no tie is lost
  pub same_ending : (X : Window) → X.given ≡ W.given → X.status ≡ W.status → ((k : ℕ → Bool) (l f : ℕ) → tied W.ties k l f ≡ true → tied X.ties k l f ≡ true) → Ending W X none 4
  unfolding shown_status live no_change
  same_ending X g s = quietly W X (λ c e. rw (g, s)) (λ c e. rw (g, s) at e) (λ c e. rw (g, s) e)

  pub ending_of : {d : Action} {k : ℕ} {X : Window} → Move W d k X → is_opening d ≡ false → (s : Set) × (how : ℕ) × Ending W X s how
  unfolding is_opening with_held with_line with_permits with_ties hand_over
  ending_of (opened n k) o = absurd (true≢false o)
  ending_of (started p) o = (none, 4, start_ending p)
  ending_of (calm k X q) o = (none, 4, calm_ending X q)
  ending_of (locked c e m k h w q) o = (none, 4, same_ending _ refl refl (λ i a b t. t))
  ending_of (granted g t e o k) p = (none, 4, same_ending _ refl refl (λ i a b t. t))
  ending_of (handed f t e k) o = (none, 4, same_ending _ refl refl (λ i a b t. t))
  ending_of (depended i l f k a b) o = (none, 4, same_ending _ refl refl (tie_old (make_tie i l f) W.ties))
  ending_of (committed c k l b) o = (group_of W c, 4, commit_ending c l b)
  ending_of (aborted c k l) o = (end_set W c, 5, abort_ending c l)

-- a tie just made stands
pub record New (X : Window) (i l f : ℕ) : Type 0 where
  pub lead : live X l ≡ true
  pub follow : live X f ≡ true
  pub arrow : eqb i 3 ≡ false → tied X.ties (of_kind i) l f ≡ true
  pub group : eqb i 3 ≡ true → grouped X.ties l f ≡ true

new_tie : (W : Window) (i l f : ℕ) → live W l ≡ true → live W f ≡ true → New (with_ties W (add_tie (make_tie i l f) W.ties)) i l f
unfolding with_ties live make_tie grouped is_group
new_tie W i l f a b = record {
  lead = a;
  follow = b;
  arrow = λ e. rw e (tie_new (record { kind = i; leader = l; follower = f }) W.ties (of_kind i) (eqb_same i));
  group = λ e. rw e (go (below l f));
}
  where
    three : TieRecord
    three = record { kind = 3; leader = min l f; follower = max l f }

    go : {x : Bool} → Below l f x → tied (add_tie three W.ties) is_group l f || tied (add_tie three W.ties) is_group f l ≡ true
    go (under h) = let p : min l f ≡ l = omega arith in let q : max l f ≡ f = omega arith in
        rw (p, q) (or_left (tied (add_tie (record { kind = 3; leader = l; follower = f }) W.ties) is_group l f) _ (tie_new (record { kind = 3; leader = l; follower = f }) W.ties is_group refl))
    go (over h) = let p : min l f ≡ f = omega arith in let q : max l f ≡ l = omega arith in
        rw (p, q) (or_right (tied (add_tie (record { kind = 3; leader = f; follower = l }) W.ties) is_group l f) _ (tie_new (record { kind = 3; leader = f; follower = l }) W.ties is_group refl))

pub fresh_tie : (W : Window) {d : Action} {k : ℕ} {X : Window} → Move W d k X → (i l f : ℕ) → is_tying i l f d ≡ true → New X i l f
unfolding is_tying
fresh_tie W (opened n k) i l f e = absurd (false≢true e)
fresh_tie W (started p) i l f e = absurd (false≢true e)
fresh_tie W (calm k X q) i l f e = absurd (false≢true e)
fresh_tie W (locked c x m k h w q) i l f e = absurd (false≢true e)
fresh_tie W (granted g t x o k) i l f e = absurd (false≢true e)
fresh_tie W (handed g t x k) i l f e = absurd (false≢true e)
fresh_tie W (depended j m g k a b) i l f e = let u = and_left (eqb i j && eqb l m) (eqb f g) e in
    rw (eqb-true i j (and_left (eqb i j) _ u), eqb-true l m (and_right (eqb i j) _ u), eqb-true f g (and_right (eqb i j && eqb l m) _ e)) (new_tie W j m g a b)
fresh_tie W (committed c k a b) i l f e = absurd (false≢true e)
fresh_tie W (aborted c k a) i l f e = absurd (false≢true e)
