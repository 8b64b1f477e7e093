-- What a commit and an abort give: by the change's status, and by the set that it ends, whose members were given. Assumes nothing.
use mathlib.Core.Path.{◌≡◌, refl, sym, ◌∙◌, ap, fun_ext}
use mathlib.Core.Logic.{⊎_elim, ◌≢◌}
use mathlib.Core.Bool.{Bool, true, false, not, cond, ◌&&◌, ◌||◌, false≢true}
use mathlib.Core.List.{List}
use Prim.Native.Nat.{ℕ, suc, ◌≤◌, ◌<◌}
use native.Mathlib.Omega.{arith}
use lib.Dec.{ltb, eqb}
use lib.ListN.{length, take, drop}
use borrow.Author.Tests.{not-true, not-false, eqb-true}
use Rattle.rules.specs.Base.{any_below, count_below, lowest_below}
use Rattle.rules.specs.Sets.{Set, Rel, reach}
use Rattle.rules.specs.Window.{limits, TieRecord, live, no_change}
use Rattle.rules.specs.Ties.{is_arrow, grouped, falling, group_of, end_set}
use Rattle.rules.specs.Calls.{Commit, Abort, Outcome, done, unchanged}
use Rattle.rules.specs.Effects.{end_all, withdraw, size, commit_blockers, commit_group, commit_change, abort_all, abort_change, effect, leaders_of}
use Rattle.rules.specs.Refusals.{◌if◌, checks, first_failed}
use Rattle.rules.proofs.BaseLaws.{and_right, both_ways, and_both, no_true, any_intro, none_below, Below, under, over, below}
use Rattle.rules.proofs.Promises.{blocks}
use Rattle.rules.proofs.SoundParts.{status_none, live_below, live_of, ends-live, ends_below_lem}
use Rattle.rules.proofs.SoundStep.{group_live, fall_live}
use Rattle.rules.proofs.TieLaws.{tied-ends}
use Rattle.layout.specs.Codec.{changes_at, changes_size, ties_at, ties_size, change_section, tie_section, decode, encode}
use Rattle.layout.specs.Memory.{sound_bytes}
use Rattle.layout.specs.Records.{ends_below}
use Rattle.layout.proofs.SoundCodec.{given_most}
use Rattle.layout.proofs.MemoryLaws.{bytes-sound, changes_known, ties_known}
use Rattle.rules.proofs.BoundLaws.{any_bound, lowest_bound, count_bound}
use Rattle.replies.specs.declared.Reply.{Reply}
use Rattle.replies.specs.Gives.{Gives, written}
use Rattle.replies.proofs.GiveLaws.{left, looked, unrefused, given-done}
use Rattle.sets.proofs.WalkLaws.{lowest_of}
use Rattle.reads.proofs.ReadLaws.{reads_same, reads_other}

-- BY STATUS: x is how the call would end the change, y the other way to end
-- a set with a lowest member has one, and a set without has none
pub some_there : (b : Set) (c : ℕ) → c < 256 → c ≡ lowest_below 256 b → not (any_below 256 b) ≡ false
some_there b c l e = ap not (any_intro 256 b c l ((lowest_of b c e).hit l))

pub none_there : (b : Set) → 256 ≡ lowest_below 256 b → not (any_below 256 b) ≡ true
none_there b e = ap not (none_below 256 b (λ d h q. false≢true (sym ((lowest_of b 256 e).before d h) ∙ q)))

module _ (bs : List ℕ) (c st : ℕ) (e : st ≡ (decode bs).status c) (x y : ℕ) (o : Outcome) where
  abbrev Ending : Outcome
  Ending = cond (eqb ((decode bs).status c) x) (done 0 (decode bs)) (cond (eqb ((decode bs).status c) y) (unchanged 21 0 (decode bs)) o)

  pub ended_so : sound_bytes bs ≡ true → st ≡ x → (r : Reply) → (r.answer ≡ 0) × (r.number ≡ 0) → Gives (written Ending) r bs
  ended_so s q r a = rw (reads_same e x q) (looked bs s 0 r a)

  pub ended_else : sound_bytes bs ≡ true → st ≢ x → st ≡ y → (r : Reply) → (r.answer ≡ 21) × (r.number ≡ 0) → Gives (written Ending) r bs
  ended_else s n q r a = rw (reads_other e x n, reads_same e y q) (left bs s 21 0 r a.0 a.1)

  not_ended : st ≢ x → st ≢ y → {r : Reply} {after : List ℕ} → Gives (written o) r after → Gives (written Ending) r after
  not_ended n m g = rw (reads_other e x n, reads_other e y m) g

module _ (bs : List ℕ) (s : sound_bytes bs ≡ true) where
  -- a change number is below 256
  given_below : suc (decode bs).given ≤ 256
  given_below = omega (arith, given_most (decode bs) (bytes-sound bs s))

  still_live : (c st : ℕ) → st ≡ (decode bs).status c → no_change (decode bs) c ≡ false → st ≢ 4 → st ≢ 5 → live (decode bs) c ≡ true
  still_live c st e known n m = live_of limits (decode bs) (bytes-sound bs s) c known (reads_other e 4 n) (reads_other e 5 m)

  -- A SET OF LIVE CHANGES has no member past the highest given
  module _ (m : Set) (lives : (k : ℕ) → m k ≡ true → live (decode bs) k ≡ true) where
    past : (k : ℕ) → suc (decode bs).given ≤ k → m k ≡ false
    past k h = no_true (m k) (λ q. omega (arith, live_below (decode bs) k (lives k q)))

    all-counted : count_below 256 m ≡ size (decode bs) m
    unfolding size
    all-counted = count_bound m (suc (decode bs).given) 256 given_below past

    -- nor has what holds up its commit
    blockers_past : (k : ℕ) → suc (decode bs).given ≤ k → commit_blockers (decode bs) m k ≡ false
    blockers_past k h = no_true _ (λ q. ⊎_elim (λ a. omega (arith, live_below (decode bs) k (lives k a.0)))
        (λ a. omega (arith, live_below (decode bs) k (tied-ends (live (decode bs)) (decode bs).ties (ends-live limits (decode bs) (bytes-sound bs s)) is_arrow k a.0 a.1).0))
        (blocks (decode bs) m k q))

  -- THE GROUP AND THE END SET, read from the ties
  module _ (c count : ℕ) (n : count ≡ length (decode bs).ties) (m : Set) where
    abbrev ReachedBy : (List TieRecord → Rel) → Type 0
    ReachedBy r = (ts : List TieRecord) → length ts ≡ count → take ties_size (drop ties_at bs) ≡ tie_section ts → (i : ℕ) → ends_below i ts ≡ true → (k : ℕ) → m k ≡ reach i (r ts) c k

    reached : (r : List TieRecord → Rel) → ReachedBy r → m ≡ reach (suc (decode bs).given) (r (decode bs).ties) c
    unfolding ends_below
    reached r f = fun_ext (f (decode bs).ties (sym n) (ties_known bs s) (suc (decode bs).given) (ends_below_lem (decode bs) (bytes-sound bs s).ties))

    pub group_read : ReachedBy grouped → m ≡ group_of (decode bs) c
    unfolding group_of
    group_read = reached grouped

    pub end_set_read : ReachedBy falling → m ≡ end_set (decode bs) c
    unfolding end_set
    end_set_read = reached falling

  -- what holds up a commit, by sets
  pub blockers_read : (given count : ℕ) (g completed rest leaders all : Set) → given ≡ (decode bs).given → count ≡ length (decode bs).ties
      → ((st pa : ℕ → ℕ) → take changes_size (drop changes_at bs) ≡ change_section st pa → (k : ℕ) → completed k ≡ ltb k (suc given) && eqb (st k) 3)
      → ((ts : List TieRecord) → length ts ≡ count → take ties_size (drop ties_at bs) ≡ tie_section ts → (k : ℕ) → leaders k ≡ leaders_of ts g k)
      → ((k : ℕ) → rest k ≡ g k && not (completed k)) → ((k : ℕ) → all k ≡ rest k || leaders k) → (k : ℕ) → all k ≡ commit_blockers (decode bs) g k
  unfolding commit_blockers
  blockers_read given count g completed rest leaders all x n f h r a k =
      a k ∙ rw (r k, f (decode bs).status (decode bs).parent (changes_known bs s) k, h (decode bs).ties (sym n) (ties_known bs s) k, is)
    where
      is : ltb k (suc given) && eqb ((decode bs).status k) 3 ≡ eqb ((decode bs).status k) 3
      is = both_ways _ _ (and_right (ltb k (suc given)) _) (λ q. and_both (ltb k (suc given)) _ (go (below k (suc given)) q) q)
        where
          go : {b : Bool} → Below k (suc given) b → eqb ((decode bs).status k) 3 ≡ true → b ≡ true
          go (under l) q = refl
          go (over l) q = absurd (omega (arith, eqb-true ((decode bs).status k) 3 q, status_none limits (decode bs) (bytes-sound bs s) k (omega arith)))

  -- COMMIT
  module _ (c st : ℕ) (q : first_failed (checks limits (decode bs) (Commit c)) ≡ 0) (e : st ≡ (decode bs).status c) (n : st ≢ 4) (m : st ≢ 5) (g : Set) (is : g ≡ group_of (decode bs) c) where
    group_lives : (k : ℕ) → g k ≡ true → live (decode bs) k ≡ true
    unfolding checks ◌if◌
    group_lives k h = group_live limits (decode bs) (bytes-sound bs s) c (still_live c st e (unrefused (decode bs) (Commit c) q).0 n m) k (ap (λ (u : Set). u k) (sym is) ∙ h)

    module _ (b : Set) (blocks : (k : ℕ) → b k ≡ commit_blockers (decode bs) g k) where
      same : b ≡ commit_blockers (decode bs) g
      same = fun_ext blocks

      any_blocks : any_below 256 b ≡ any_below (suc (decode bs).given) (commit_blockers (decode bs) g)
      any_blocks = ap (any_below 256) same ∙ any_bound (commit_blockers (decode bs) g) (suc (decode bs).given) 256 given_below (λ k h l. blockers_past g group_lives k h)

      pub commit-waits : (empty : Bool) → empty ≡ not (any_below 256 b) → empty ≡ false → (r : Reply) → r.answer ≡ 20 → r.number ≡ lowest_below 256 b → Gives (written (effect (decode bs) (Commit c))) r bs
      unfolding effect commit_change commit_group
      commit-waits empty x y r a l =
          let t = sym any_blocks ∙ not-false (any_below 256 b) (sym x ∙ y) in
          not_ended bs c st e 4 5 _ n m (rw (← is) (rw t (left bs s 20 _ r a (l ∙ ap (lowest_below 256) same ∙ lowest_bound (commit_blockers (decode bs) g) (suc (decode bs).given) 256 given_below t))))

      pub commit-ends : (empty : Bool) → empty ≡ not (any_below 256 b) → empty ≡ true → (count : ℕ) → count ≡ count_below 256 g → (r : Reply) → (r.answer ≡ 0) × (r.number ≡ count) → (after : List ℕ) → after ≡ encode (end_all 4 g (decode bs))
          → Gives (written (effect (decode bs) (Commit c))) r after
      unfolding effect commit_change commit_group
      commit-ends empty x y count k r a after w =
          let t = sym any_blocks ∙ not-true (any_below 256 b) (sym x ∙ y) in
          not_ended bs c st e 4 5 _ n m (rw (← is) (rw t (given-done _ _ r after (a.0, a.1 ∙ k ∙ all-counted g group_lives) w)))

  -- ABORT
  module _ (c st : ℕ) (q : first_failed (checks limits (decode bs) (Abort c)) ≡ 0) (e : st ≡ (decode bs).status c) (n : st ≢ 5) (m : st ≢ 4) (g : Set) (is : g ≡ end_set (decode bs) c) where
    end_lives : (k : ℕ) → g k ≡ true → live (decode bs) k ≡ true
    unfolding checks ◌if◌
    end_lives k h = fall_live limits (decode bs) (bytes-sound bs s) c (still_live c st e (unrefused (decode bs) (Abort c) q).0 m n) k (ap (λ (u : Set). u k) (sym is) ∙ h)

    pub abort-done : (count : ℕ) → count ≡ count_below 256 g → (r : Reply) → (r.answer ≡ 0) × (r.number ≡ count) → (after : List ℕ) → after ≡ encode (end_all 5 g (withdraw g (decode bs)))
        → Gives (written (effect (decode bs) (Abort c))) r after
    unfolding effect abort_change abort_all
    abort-done count k r a after w = not_ended bs c st e 5 4 _ n m (rw (← is) (given-done _ _ r after (a.0, a.1 ∙ k ∙ all-counted g end_lives) w))
