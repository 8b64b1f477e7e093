-- Demand 2 of the second numbers, in words of the window: which changes a commit ends, how many an end has ended, who is in the way of a
-- commit, which number a new change gets, what the calls that look at the window say, and whose number is always 0 or 0 unless blocked. Assumes nothing.
use mathlib.Core.Path.{◌≡◌, refl, sym, ◌∙◌, ap}
use mathlib.Core.Logic.{⊎_elim, ◌≢◌}
use mathlib.Core.Bool.{Bool, true, false, not, cond, ◌&&◌, false≢true}
use Prim.Native.Nat.{ℕ, zero, suc, ◌<◌}
use native.Mathlib.Omega.{arith}
use lib.Dec.{eqb}
use borrow.Author.Tests.{ne_eqb}
use Rattle.rules.specs.Base.{any_below, count_below, lowest_below}
use Rattle.rules.specs.Sets.{Set, put_all}
use Rattle.rules.specs.Window.{Limits, Window, with_value, with_log, no_change, live, is_ended}
use Rattle.rules.specs.Ties.{is_arrow, tied, group_of, end_set}
use Rattle.rules.specs.Calls.{Call, Open, Initiate, Begin, Complete, Lock, Read, Write, Permit, Delegate, Depend, Commit, Abort, Status, Parent, Value, Outcome, done, unchanged, blocked}
use Rattle.rules.specs.Effects.{add_change, covers, in_the_way, lock_granted, lock_entry, commit_blockers, commit_group, commit_change, end_all, size, abort_change, withdraw, abort_all, effect}
use Rattle.rules.specs.Refusals.{checks, first_failed, ◌if◌, settle, step}
use Rattle.rules.proofs.BaseLaws.{or_left, put_same, put_other}
use Rattle.rules.proofs.BoundLaws.{count_ext, count_bound, lowest_hit, lowest_below_lem}
use Rattle.rules.proofs.DemandMoves.{live-status, not_ended}
use Rattle.rules.proofs.Promises.{blocks, leader_blocks, commit-live}
use Rattle.rules.proofs.RuleLaws.{done_unrefused}
use Rattle.rules.proofs.SoundParts.{Sound, live_of}
use Rattle.rules.proofs.SoundStep.{group_live, fall_live}

-- WHO ENDS
-- a commit of a group that is answered 0 has ended it
group_done : (W : Window) (g : Set) → (commit_group W g).answer ≡ 0 → commit_group W g ≡ done (size W g) (end_all 4 g W)
unfolding commit_group unchanged done
group_done W g = go (any_below (suc W.given) (commit_blockers W g)) _
  where
    go : (b : Bool) (k : ℕ) → (cond b (unchanged 20 k W) (done (size W g) (end_all 4 g W))).answer ≡ 0
        → cond b (unchanged 20 k W) (done (size W g) (end_all 4 g W)) ≡ done (size W g) (end_all 4 g W)
    go true k e = absurd (omega arith)
    go false k e = refl

module _ (L : Limits) (W : Window) (z : Sound L W) (c : ℕ) (lc : live W c ≡ true) where
  commit_is : (step L W (Commit c)).answer ≡ 0 → step L W (Commit c) ≡ done (size W (group_of W c)) (end_all 4 (group_of W c) W)
  commit_is a = let e = commit-live L W z c lc in e ∙ group_done W (group_of W c) (sym (ap (λ o. o.answer) e) ∙ a)

  -- the twin of `Promises.abort-ends`: the group becomes committed, and nobody else's status changes
  pub commit-ends : (step L W (Commit c)).answer ≡ 0 → (d : ℕ) → (step L W (Commit c)).after.status d ≡ cond (group_of W c d) 4 (W.status d)
  unfolding end_all put_all done
  commit-ends a d = ap (λ o. o.after.status d) (commit_is a)

-- HOW MANY
-- the changes that were live before and are ended after
unfoldable pub newly_ended : Window → Window → Set
newly_ended W X d = live W d && is_ended (X.status d)

-- commit and abort
pub data Ends : Call → Type 0 where
  commits : (c : ℕ) → Ends (Commit c)
  aborts : (c : ℕ) → Ends (Abort c)

-- who has ended is not live
still : (W : Window) (d : ℕ) (b : Bool) → live W d ≡ b → b && is_ended (W.status d) ≡ false
still W d true l = not_ended (W.status d) (live-status W d l)
still W d false l = refl

-- live changes of a set that end, and nobody else, are the newly ended ones
count-ended : (W X : Window) (s : Set) (how : ℕ) → is_ended how ≡ true → ((d : ℕ) → s d ≡ true → live W d ≡ true) → ((d : ℕ) → X.status d ≡ cond (s d) how (W.status d))
    → count_below (suc W.given) s ≡ count_below (suc W.given) (newly_ended W X)
unfolding newly_ended
count-ended W X s how ends lives after = count_ext s (newly_ended W X) (suc W.given) (λ d h. rw (after d) (go d (s d) refl))
  where
    go : (d : ℕ) (b : Bool) → s d ≡ b → b ≡ live W d && is_ended (cond b how (W.status d))
    go d true e = rw (lives d e, ends)
    go d false e = sym (still W d (live W d) refl)

-- nobody has ended where nothing changed
none_ended : (W : Window) → 0 ≡ count_below (suc W.given) (newly_ended W W)
unfolding newly_ended count_below
none_ended W = sym (count_bound (newly_ended W W) 0 (suc W.given) (omega arith) (λ d h. still W d (live W d) refl))

-- the second number is how many changes were live before and are ended after, if the answer is 0
Counted : Window → Outcome → Type 0
Counted W o = o.answer ≡ 0 → o.number ≡ count_below (suc W.given) (newly_ended W o.after)

-- a commit or an abort that is refused, or whose change has ended
end_counted : (W : Window) (n f a : Bool) (o : Outcome) → (n ≡ false → f ≡ false → a ≡ false → Counted W o) → Counted W (settle (cond n 3 0) W (cond f (done 0 W) (cond a (unchanged 21 0 W) o)))
unfolding Counted settle done unchanged
end_counted W true f a o h e = absurd (omega arith)
end_counted W false true a o h e = none_ended W
end_counted W false false true o h e = absurd (omega arith)
end_counted W false false false o h e = h refl refl refl e

module _ (L : Limits) (W : Window) (z : Sound L W) where
  group_counted : (c : ℕ) → live W c ≡ true → Counted W (commit_group W (group_of W c))
  unfolding Counted done size end_all put_all is_ended
  group_counted c l e = rw (group_done W (group_of W c) e) (count-ended W (end_all 4 (group_of W c) W) (group_of W c) 4 refl (group_live L W z c l) (λ d. refl))

  all-counted : (c : ℕ) → live W c ≡ true → Counted W (abort_all W (end_set W c))
  unfolding Counted abort_all withdraw done size end_all put_all with_value with_log is_ended
  all-counted c l e = count-ended W (abort_all W (end_set W c)).after (end_set W c) 5 refl (fall_live L W z c l) (λ d. refl)

  -- "how many changes this call ended"
  pub ended-number : (x : Call) → Ends x → (step L W x).answer ≡ 0 → (step L W x).number ≡ count_below (suc W.given) (newly_ended W (step L W x).after)
  unfolding Counted step checks first_failed ◌if◌ effect commit_change abort_change
  ended-number _ (commits c) = end_counted W (no_change W c) (eqb (W.status c) 4) (eqb (W.status c) 5) _ (λ n f a. group_counted c (live_of L W z c n f a))
  ended-number _ (aborts c) = end_counted W (no_change W c) (eqb (W.status c) 5) (eqb (W.status c) 4) _ (λ n a f. all-counted c (live_of L W z c n f a))

-- WHO IS IN THE WAY
-- of the commit of a change: a member of its group that is not completed, or the leader of a wait or fall tie to a member
pub data BlocksCommit (W : Window) (c d : ℕ) : Type 0 where
  uncompleted : group_of W c d ≡ true → W.status d ≢ 3 → BlocksCommit W c d
  leads : (f : ℕ) → group_of W c f ≡ true → tied W.ties is_arrow d f ≡ true → BlocksCommit W c d

-- the set that the rules take
way_of : (W : Window) (c d : ℕ) → commit_blockers W (group_of W c) d ≡ true → BlocksCommit W c d
way_of W c d e = ⊎_elim (λ m. uncompleted m.0 m.1) (λ m. leads m.0 m.2 m.1) (blocks W (group_of W c) d e)

of_way : (W : Window) (c d : ℕ) → BlocksCommit W c d → commit_blockers W (group_of W c) d ≡ true
unfolding commit_blockers
of_way W c d (uncompleted g n) = or_left (group_of W c d && not (eqb (W.status d) 3)) _ (rw (g, ne_eqb (W.status d) 3 n))
of_way W c d (leads f g t) = leader_blocks W (group_of W c) d f g t

-- a commit of a group that is answered 20 names the lowest
group_blocked : (W : Window) (g : Set) → (commit_group W g).answer ≡ 20 → (any_below (suc W.given) (commit_blockers W g) ≡ true) × ((commit_group W g).number ≡ lowest_below (suc W.given) (commit_blockers W g))
unfolding commit_group unchanged done
group_blocked W g = go (any_below (suc W.given) (commit_blockers W g)) _ _
  where
    go : (b : Bool) (j : ℕ) (X : Window) → (cond b (unchanged 20 (lowest_below (suc W.given) (commit_blockers W g)) W) (done j X)).answer ≡ 20
        → (b ≡ true) × ((cond b (unchanged 20 (lowest_below (suc W.given) (commit_blockers W g)) W) (done j X)).number ≡ lowest_below (suc W.given) (commit_blockers W g))
    go true j X e = (refl, refl)
    go false j X e = absurd (omega arith)

-- a commit answered 20 is that of a group
end_blocked : (W : Window) (n f a : Bool) (o : Outcome) → (settle (cond n 3 0) W (cond f (done 0 W) (cond a (unchanged 21 0 W) o))).answer ≡ 20
    → settle (cond n 3 0) W (cond f (done 0 W) (cond a (unchanged 21 0 W) o)) ≡ o
unfolding settle done unchanged
end_blocked W true f a o e = absurd (omega arith)
end_blocked W false true a o e = absurd (omega arith)
end_blocked W false false true o e = absurd (omega arith)
end_blocked W false false false o e = refl

-- "its second number is the lowest change number in that set": it is in the way, and nothing below it is
pub blocked-number : (L : Limits) (W : Window) (c : ℕ) → (step L W (Commit c)).answer ≡ 20
    → BlocksCommit W c (step L W (Commit c)).number × ((d : ℕ) → d < (step L W (Commit c)).number → BlocksCommit W c d → ⊥)
unfolding step checks first_failed ◌if◌ effect commit_change
blocked-number L W c e =
    let s = commit_blockers W (group_of W c) in
    let n = suc W.given in
    let q = end_blocked W (no_change W c) (eqb (W.status c) 4) (eqb (W.status c) 5) (commit_group W (group_of W c)) e in
    let b = group_blocked W (group_of W c) (sym (ap (λ o. o.answer) q) ∙ e) in
    let k = ap (λ o. o.number) q ∙ b.1 in
    (rw k (way_of W c (lowest_below n s) (lowest_hit s n b.0).1), λ d h w. false≢true (sym (lowest_below_lem s n d (rw k at h)) ∙ of_way W c d w))

-- WHAT THE OTHER CALLS SAY
-- a new change: the number after the highest given, initiated, with its parent; the status and parent of everybody else are as before
pub record Added (W X : Window) (n p : ℕ) : Type 0 where
  pub next : n ≡ suc W.given
  pub given : X.given ≡ n
  pub status : X.status n ≡ 1
  pub parent : X.parent n ≡ p
  pub others : (d : ℕ) → d ≢ n → (X.status d ≡ W.status d) × (X.parent d ≡ W.parent d)

module _ (L : Limits) (W : Window) where
  -- "second number is the new change"
  pub initiate_number : (p : ℕ) → (step L W (Initiate p)).answer ≡ 0 → Added W (step L W (Initiate p)).after (step L W (Initiate p)).number p
  unfolding effect done add_change
  initiate_number p a = rw (done_unrefused L W (Initiate p) a).1 (record {
    next = refl;
    given = refl;
    status = put_same W.status (suc W.given) 1;
    parent = put_same W.parent (suc W.given) p;
    others = λ d n. (put_other W.status (suc W.given) 1 d n, put_other W.parent (suc W.given) p d n);
  })

  -- "second number is the value"
  pub read_number : (c e : ℕ) → (step L W (Read c e)).answer ≡ 0 → (step L W (Read c e)).number ≡ W.value e
  unfolding effect done
  read_number c e a = ap (λ o. o.number) (done_unrefused L W (Read c e) a).1

  -- "status, parent (change), value (entry): second number is the answer"
  pub status-number : (c : ℕ) → (step L W (Status c)).answer ≡ 0 → (step L W (Status c)).number ≡ W.status c
  unfolding effect done
  status-number c a = ap (λ o. o.number) (done_unrefused L W (Status c) a).1

  pub parent-number : (c : ℕ) → (step L W (Parent c)).answer ≡ 0 → (step L W (Parent c)).number ≡ W.parent c
  unfolding effect done
  parent-number c a = ap (λ o. o.number) (done_unrefused L W (Parent c) a).1

  pub value-number : (e : ℕ) → (step L W (Value e)).answer ≡ 0 → (step L W (Value e)).number ≡ W.value e
  unfolding effect done
  value-number e a = ap (λ o. o.number) (done_unrefused L W (Value e) a).1

-- "the second number is 0 unless said": of these calls, whatever they answer
pub data Unsaid : Call → Type 0 where
  opens : (n : ℕ) → Unsaid (Open n)
  begins : (c : ℕ) → Unsaid (Begin c)
  completes : (c : ℕ) → Unsaid (Complete c)
  writes : (c e v : ℕ) → Unsaid (Write c e v)
  permits : (g t e o : ℕ) → Unsaid (Permit g t e o)
  delegates : (f t e : ℕ) → Unsaid (Delegate f t e)
  depends : (k l f : ℕ) → Unsaid (Depend k l f)

settled_zero : (a : ℕ) (W : Window) (o : Outcome) → o.number ≡ 0 → (settle a W o).number ≡ 0
unfolding settle unchanged
settled_zero zero W o e = e
settled_zero (suc a) W o e = refl

effect_zero : (W : Window) (x : Call) → Unsaid x → (effect W x).number ≡ 0
unfolding effect done
effect_zero W _ (opens n) = refl
effect_zero W _ (begins c) = refl
effect_zero W _ (completes c) = refl
effect_zero W _ (writes c e v) = refl
effect_zero W _ (permits g t e o) = refl
effect_zero W _ (delegates f t e) = refl
effect_zero W _ (depends k l f) = refl

pub unsaid_number : (L : Limits) (W : Window) (x : Call) → Unsaid x → (step L W x).number ≡ 0
unfolding step
unsaid_number L W x u = settled_zero (first_failed (checks L W x)) W (effect W x) (effect_zero W x u)

-- and of a lock that is not blocked
pub lock_zero : (L : Limits) (W : Window) (c e m : ℕ) → (step L W (Lock c e m)).answer ≢ 20 → (step L W (Lock c e m)).number ≡ 0
unfolding step
lock_zero L W c e m n = go (first_failed (checks L W (Lock c e m))) n
  where
    passed : (b d : Bool) (k : ℕ) (X Y Z : Window) → let o = cond b (done 0 X) (cond d (done 0 Y) (blocked k Z)) in o.answer ≢ 20 → o.number ≡ 0
    passed true d k X Y Z h = unfold done in refl
    passed false true k X Y Z h = unfold done in refl
    passed false false k X Y Z h = absurd (h (unfold blocked in refl))

    go : (a : ℕ) → (settle a W (effect W (Lock c e m))).answer ≢ 20 → (settle a W (effect W (Lock c e m))).number ≡ 0
    go zero h = unfold settle effect lock_entry in passed (covers (W.held e c) m) (lock_granted W c e m) (in_the_way W c e m) _ _ _ h
    go (suc a) h = unfold settle unchanged in refl
