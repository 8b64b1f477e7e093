-- What the rules say of groups, of the set an abort ends and of arrows, by paths; that an existing tie is 0 again; and what demand 2 says of them:
-- when a change commits, what a withdrawal puts back and strikes. Assumes nothing.
use mathlib.Core.Path.{◌≡◌, refl, sym, ◌∙◌, ap}
use mathlib.Core.Logic.{◌⊎◌, inl, inr, ⊎_elim, ◌↔◌, ◌≢◌}
use mathlib.Core.Bool.{Bool, true, false, not, cond, ◌&&◌, true≢false}
use mathlib.Core.List.{List, ◌∷◌, ◌++◌, map, Memᴰ}
use Prim.Native.Nat.{ℕ, suc}
use native.Mathlib.Omega.{arith}
use lib.Dec.{eqb}
use lib.ListN.{length, get_or}
use borrow.Author.Tests.{not-true, not-false, eqb-false, eqb-true}
use Rattle.rules.specs.Base.{exceeds, any_below, any, keep, table}
use Rattle.rules.specs.Sets.{Set, put_all}
use Rattle.rules.specs.Window.{Limits, LogRecord, TieRecord, Window, tie_key, with_value, with_log, live, is_ended}
use Rattle.rules.specs.Ties.{make_tie, add_tie, acyclic, is_arrow, tied, grouped, falling, group_of, end_set}
use Rattle.rules.specs.Calls.{Commit, Abort, done, unchanged}
use Rattle.rules.specs.Effects.{released, end_all, leads_to, leaders_of, commit_blockers, commit_group, commit_change, owned_on, undo, withdraw, abort_all, abort_change, effect}
use Rattle.rules.specs.Refusals.{checks, first_failed, ◌if◌, settle, step}
use Rattle.rules.proofs.BaseLaws.{or_right, or_cases, or_none, and_both, and_left, and_right, none_below, any_below_none, eqb_same}
use Rattle.rules.proofs.DemandMoves.{live-status, not_ended}
use Rattle.rules.proofs.ListLaws.{any_find, any_weaken}
use Rattle.rules.proofs.PathLaws.{Way, reach_ways, Arrows, grouped_bounded, falling_bounded, acyclic_paths}
use Rattle.rules.proofs.SortLaws.{insert-standing}
use Rattle.rules.proofs.SoundParts.{Sound, live_below, live-change, ends_below_lem, ends-live}
use Rattle.rules.proofs.SoundStep.{group_live}
use Rattle.rules.proofs.TieLaws.{tied-ends, stands_tied}
use Rattle.rules.proofs.UndoLaws.{undo_join, undo_by, left_unowned, stays_at, left_places}

-- of a sound window
module _ (L : Limits) (W : Window) (z : Sound L W) where
  -- "A group is a live change with all that group ties reach from it"
  pub group_ways : (c d : ℕ) → group_of W c d ≡ true ↔ Way (grouped W.ties) c d
  unfolding group_of
  group_ways = reach_ways (suc W.given) (grouped W.ties) (grouped_bounded W.ties (suc W.given) (ends_below_lem W z.ties))

  -- "the least set that holds the change and is closed under group ties either way and under fall ties from leader to follower"
  pub end_ways : (c d : ℕ) → end_set W c d ≡ true ↔ Way (falling W.ties) c d
  unfolding end_set
  end_ways = reach_ways (suc W.given) (falling W.ties) (falling_bounded W.ties (suc W.given) (ends_below_lem W z.ties))

  -- "no path of arrows returns to its group"
  pub no_return : (x : ℕ) → Arrows W.ties x x → ⊥
  no_return = (acyclic_paths W.ties (suc W.given) (ends_below_lem W z.ties)).0 z.no_cycle_lem

  -- "an existing tie is 0 again": neither 9 nor 11 applies, and the ties stay as they are
  pub tie_again : (k l f : ℕ) → Memᴰ (make_tie k l f) W.ties
      → (add_tie (make_tie k l f) W.ties ≡ W.ties) × (acyclic (suc W.given) (add_tie (make_tie k l f) W.ties) ≡ true) × (not (exceeds (length (add_tie (make_tie k l f) W.ties)) L.ties) ≡ true)
  unfolding add_tie
  tie_again k l f m = let e = insert-standing tie_key m z.tie_order in (e, rw e z.no_cycle_lem, rw e z.room_ties)

-- 0 or 20, by a test
zero_or20 : Bool → ℕ
zero_or20 b = cond b 0 20

zero_of : (b : Bool) → zero_or20 b ≡ 0 → b ≡ true
unfolding zero_or20
zero_of true e = refl
zero_of false e = absurd (omega arith)

of_zero : (b : Bool) → b ≡ true → zero_or20 b ≡ 0
unfolding zero_or20
of_zero b e = rw e

-- the leader of an arrow to a member blocks a commit
pub leader_blocks : (W : Window) (g : Set) (d f : ℕ) → g f ≡ true → tied W.ties is_arrow d f ≡ true → commit_blockers W g d ≡ true
unfolding commit_blockers leaders_of leads_to tied
leader_blocks W g d f h e = or_right (g d && not (eqb (W.status d) 3)) _ (any_weaken _ (λ t. is_arrow t.kind && eqb t.leader d && g t.follower) one W.ties e)
  where
    one : (t : TieRecord) → is_arrow t.kind && eqb t.leader d && eqb t.follower f ≡ true → is_arrow t.kind && eqb t.leader d && g t.follower ≡ true
    one t q = let k = is_arrow t.kind && eqb t.leader d in and_both k _ (and_left k _ q) (rw (eqb-true t.follower f (and_right k _ q)) h)

-- who blocks a commit: a member that is not completed, or the leader of an arrow to a member
pub blocks : (W : Window) (g : Set) (d : ℕ) → commit_blockers W g d ≡ true → ((g d ≡ true) × (W.status d ≢ 3)) ⊎ ((f : ℕ) × (tied W.ties is_arrow d f ≡ true) × (g f ≡ true))
unfolding commit_blockers leaders_of leads_to
blocks W g d e = ⊎_elim (λ q. inl (and_left (g d) _ q, eqb-false (W.status d) 3 (not-true _ (and_right (g d) _ q)))) (λ q. inr (led q)) (or_cases (g d && not (eqb (W.status d) 3)) _ e)
  where
    led : any (λ t. is_arrow t.kind && eqb t.leader d && g t.follower) W.ties ≡ true → (f : ℕ) × (tied W.ties is_arrow d f ≡ true) × (g f ≡ true)
    led q = let m = any_find _ W.ties q in let t = m.0 in let u = and_left (is_arrow t.kind && eqb t.leader d) (g t.follower) m.2 in
        (t.follower, rw (eqb-true t.leader d (and_right (is_arrow t.kind) (eqb t.leader d) u)) at (stands_tied is_arrow m.1 (and_left (is_arrow t.kind) (eqb t.leader d) u)), and_right (is_arrow t.kind && eqb t.leader d) (g t.follower) m.2)

-- "a change commits exactly when its whole group is completed and none of them has a live leader to wait for or fall with"
module _ (L : Limits) (W : Window) (z : Sound L W) (c : ℕ) (lc : live W c ≡ true) where
  pub commit-live : step L W (Commit c) ≡ commit_group W (group_of W c)
  unfolding step checks first_failed settle effect commit_change ◌if◌ is_ended
  commit-live = let u = or_none (eqb (W.status c) 4) (eqb (W.status c) 5) (not_ended (W.status c) (live-status W c lc)) in rw (live-change L W z c lc, u.0, u.1)

  commit-answer : (step L W (Commit c)).answer ≡ zero_or20 (not (any_below (suc W.given) (commit_blockers W (group_of W c))))
  unfolding zero_or20 done unchanged commit_group
  commit-answer = rw commit-live (go (any_below (suc W.given) (commit_blockers W (group_of W c))) _ _ _)
    where
      go : (b : Bool) (i j : ℕ) (X : Window) → (cond b (unchanged 20 i W) (done j X)).answer ≡ zero_or20 (not b)
      go true i j X = refl
      go false i j X = refl

  pub record Free : Type 0 where
    pub completed : (d : ℕ) → group_of W c d ≡ true → W.status d ≡ 3
    pub unled : (l f : ℕ) → group_of W c f ≡ true → tied W.ties is_arrow l f ≡ true → ⊥

  pub free_of : any_below (suc W.given) (commit_blockers W (group_of W c)) ≡ false → Free
  unfolding commit_blockers
  free_of none = record {
    completed = λ d g. eqb-true (W.status d) 3 (not-false _ (rw g at (or_none (group_of W c d && not (eqb (W.status d) 3)) _ (clear d (group_live L W z c lc d g))).0));
    unled = λ l f g e. true≢false (sym (leader_blocks W (group_of W c) l f g e) ∙ clear l (tied-ends (live W) W.ties (ends-live L W z) is_arrow l f e).0);
  }
    where
      clear : (d : ℕ) → live W d ≡ true → commit_blockers W (group_of W c) d ≡ false
      clear d h = any_below_none (suc W.given) (commit_blockers W (group_of W c)) none d (live_below W d h)

  of_free : Free → any_below (suc W.given) (commit_blockers W (group_of W c)) ≡ false
  of_free f = none_below (suc W.given) (commit_blockers W (group_of W c))
      (λ d h e. ⊎_elim (λ m. m.1 (f.completed d m.0)) (λ m. f.unled d m.0 m.2 m.1) (blocks W (group_of W c) d e))

  pub commit-done : (step L W (Commit c)).answer ≡ 0 ↔ Free
  commit-done = (
    λ a. free_of (not-true _ (zero_of (not (any_below (suc W.given) (commit_blockers W (group_of W c)))) (sym commit-answer ∙ a))),
    λ f. commit-answer ∙ of_zero (not (any_below (suc W.given) (commit_blockers W (group_of W c)))) (ap not (of_free f)),
  )

-- "the oldest record owned by the ended set gives the value stored": one before which there is none on its entry
undo_oldest : (s : Set) (l m : List LogRecord) (r : LogRecord) (v : ℕ → ℕ) → any (owned_on s r.entry) l ≡ false → s r.owner ≡ true → undo s (l ++ (r ∷ m)) v r.entry ≡ r.before
unfolding undo owned_on
undo_oldest s l m r v h o = undo_join s l (r ∷ m) v r.entry ∙ undo_by s l v (undo s (r ∷ m) v) r.entry ∙ rw (h, o, eqb_same r.entry)

-- where there is none, the value is as before
undo_none : (s : Set) (l : List LogRecord) (v : ℕ → ℕ) (e : ℕ) → any (owned_on s e) l ≡ false → undo s l v e ≡ v e
undo_none s l v e h = undo_by s l v v e ∙ rw h

-- "a withdrawal puts back the earlier values logged for exactly the changes it ends"
module _ (L : Limits) (W : Window) (z : Sound L W) (c : ℕ) (lc : live W c ≡ true) where
  abort-after : (step L W (Abort c)).after ≡ end_all 5 (end_set W c) (withdraw (end_set W c) W)
  unfolding step checks first_failed settle effect abort_change ◌if◌ done abort_all is_ended
  abort-after = let u = or_none (eqb (W.status c) 4) (eqb (W.status c) 5) (not_ended (W.status c) (live-status W c lc)) in rw (live-change L W z c lc, u.0, u.1)

  -- the value at each entry
  pub abort-values : (e : ℕ) → (step L W (Abort c)).after.value e ≡ undo (end_set W c) W.log W.value e
  unfolding end_all put_all withdraw with_value with_log
  abort-values e = ap (λ X. X.value e) abort-after

  -- "On each entry, the oldest record owned by the ended set gives the value stored": r, where none of the set stands before it on its entry
  pub abort_restores : (l m : List LogRecord) (r : LogRecord) → W.log ≡ l ++ (r ∷ m) → any (owned_on (end_set W c) r.entry) l ≡ false → end_set W c r.owner ≡ true
      → (step L W (Abort c)).after.value r.entry ≡ r.before
  abort_restores l m r q h o = abort-values r.entry ∙ ap (λ k. undo (end_set W c) k W.value r.entry) q ∙ undo_oldest (end_set W c) l m r W.value h o

  -- where the set owns none on an entry, the value is as before
  pub abort_spares : (e : ℕ) → any (owned_on (end_set W c) e) W.log ≡ false → (step L W (Abort c)).after.value e ≡ W.value e
  abort_spares e h = abort-values e ∙ undo_none (end_set W c) W.log W.value e h

  -- "every later record on that entry, whoever owns it, is struck from the log": the records left, in order, are those of the places i
  -- such that no record of the set stands on the entry of record i, at i or before
  pub abort_strikes : (none : LogRecord) → (step L W (Abort c)).after.log ≡ map (λ i. get_or W.log i none) (keep (stays_at (end_set W c) none W.log) (table (length W.log) 0 (λ i. i)))
  unfolding end_all withdraw with_value with_log
  abort_strikes none = ap (λ X. X.log) abort-after ∙ left_unowned (end_set W c) W.log ∙ left_places (end_set W c) none W.log

  -- "The partner stays live and keeps its lock", as does everybody that it does not end
  pub abort-holds : (e d : ℕ) → end_set W c d ≡ false → (step L W (Abort c)).after.held e d ≡ W.held e d
  unfolding end_all released put_all withdraw with_value with_log
  abort-holds e d h = ap (λ X. X.held e d) abort-after ∙ rw h

  -- whom it ends; everybody else keeps its status
  pub abort-ends : (d : ℕ) → (step L W (Abort c)).after.status d ≡ cond (end_set W c d) 5 (W.status d)
  unfolding end_all put_all withdraw with_value with_log
  abort-ends d = ap (λ X. X.status d) abort-after
