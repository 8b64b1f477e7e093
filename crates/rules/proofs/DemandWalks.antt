-- Walks: with all live changes completed, each walk ends a live group, as committed. Assumes nothing.
use mathlib.Core.Path.{◌≡◌, refl, sym, ◌∙◌, ap}
use mathlib.Core.Logic.{◌⊎◌, inl, inr, ⊎_elim}
use mathlib.Core.Bool.{Bool, true, false, not, cond, ◌&&◌, false≢true, true≢false}
use mathlib.Core.List.{List, [], ◌∷◌, ◌++◌}
use Prim.Native.Nat.{ℕ, zero, suc, ◌+◌, ◌≤◌, ◌<◌}
use native.Mathlib.Omega.{arith}
use lib.Dec.{eqb}
use borrow.Author.Tests.{not-true}
use Rattle.rules.specs.Base.{any_below, count_below, lowest_below, table, outside}
use Rattle.rules.specs.Sets.{put_all}
use Rattle.rules.specs.Window.{Limits, Window, is_ended, no_change, live}
use Rattle.rules.specs.Ties.{is_arrow, tied, grouped, leading, group_of}
use Rattle.rules.specs.Calls.{Call, Commit, Reply, done, unchanged}
use Rattle.rules.specs.Effects.{effect, commit_change, commit_blockers, commit_group, ties_left, end_all}
use Rattle.rules.specs.Refusals.{step, settle, checks, first_failed, ◌if◌}
use Rattle.rules.specs.Lists.{walks}
use Rattle.rules.proofs.BaseLaws.{no_true, never, none_below, and_both, and_left, and_right, Same, same, other, same?, any_intro, any_elim, Within}
use Rattle.rules.proofs.BoundLaws.{lowest_hit, lowest_below_lem, count-more, count_none}
use Rattle.rules.proofs.DemandEnds.{Ending, grouped_stays, commit_ending}
use Rattle.rules.proofs.DemandMoves.{shown_status, ended_4, live_not}
use Rattle.rules.proofs.PathLaws.{Way, stay, on, way_join, way_map, way_back, by_group, by_arrow, leading_bounded, acyclic_clear}
use Rattle.rules.proofs.Promises.{group_ways, blocks, commit-live}
use Rattle.rules.proofs.SoundEnd.{left, live_end, end_sound}
use Rattle.rules.proofs.SoundParts.{live_below, Sound, live_zero, live_of, ends-live, ends_below_lem}
use Rattle.rules.proofs.SoundStep.{group_live}
use Rattle.rules.proofs.SourceLaws.{source}
use Rattle.rules.proofs.TieLaws.{tied-ends, grouped_both, group_seed}

-- the live changes with which no lower live one is grouped, and how many
unfoldable pub first_in_group : Window → ℕ → Bool
first_in_group W c = live W c && not (any_below c (λ d. live W d && group_of W c d))

unfoldable pub group_count : Window → ℕ
group_count W = count_below (suc W.given) (first_in_group W)

module _ (L : Limits) (W : Window) (z : Sound L W) where
  -- a group has the groups of its members
  group_through : (c d x : ℕ) → group_of W c d ≡ true → group_of W d x ≡ true → group_of W c x ≡ true
  group_through c d x p q = (group_ways L W z c x).1 (way_join ((group_ways L W z c d).0 p) ((group_ways L W z d x).0 q))

  -- the head of a live change's group
  head_of : (c : ℕ) → live W c ≡ true → (h : ℕ) × (live W h ≡ true) × (group_of W c h ≡ true) × (first_in_group W h ≡ true)
  unfolding first_in_group
  head_of c lc =
      let h = lowest_below (suc W.given) (group_of W c) in
      let g = (lowest_hit (group_of W c) (suc W.given) (any_intro (suc W.given) (group_of W c) c (live_below W c lc) (group_seed W c))).1 in
      let l = group_live L W z c lc h g in (
        h,
        l,
        g,
        and_both (live W h) _ l (ap not (none_below h (λ d. live W d && group_of W h d)
            (λ d k e. false≢true (sym (lowest_below_lem (group_of W c) (suc W.given) d k) ∙ group_through c h d g (and_right (live W d) _ e))))),
      )

  -- where there is no head, nobody lives
  no_heads : group_count W ≡ 0 → (c : ℕ) → live W c ≡ true → ⊥
  unfolding group_count
  no_heads e c l = let r = head_of c l in false≢true (sym (count_none (suc W.given) (first_in_group W) e r.0 (live_below W r.0 r.1)) ∙ r.3)

  group_sound : (c : ℕ) → live W c ≡ true → Sound L (end_all 4 (group_of W c) W)
  unfolding outside
  group_sound c l = end_sound L W 4 (group_of W c) refl refl (group_live L W z c l) z

  -- committing a live group
  module _ (c : ℕ) (lc : live W c ≡ true) (clear : any_below (suc W.given) (commit_blockers W (group_of W c)) ≡ false) where
    X : Window
    X = end_all 4 (group_of W c) W

    P : Ending W X (group_of W c) 4
    unfolding X
    P = commit_ending L W z c lc clear

    out : (d : ℕ) → live X d ≡ true → (group_of W c d ≡ false) × (live W d ≡ true)
    unfolding X outside left
    out d h = let q = ap (λ f. f d) (sym (live_end W 4 (group_of W c) refl)) ∙ h in (not-true _ (and_left (not (group_of W c d)) _ q), and_right (not (group_of W c d)) _ q)

    -- from outside the group, group ties lead where they did, and never into it
    still : (a : ℕ) → group_of W c a ≡ false → {b : ℕ} → Way (grouped W.ties) a b → (group_of W c b ≡ false) × Way (grouped X.ties) a b
    still a n stay = (n, stay)
    still a n (on {b = x} {c = y} p q) =
        let m = still a n p in
        let ny = no_true (group_of W c y) (λ e. true≢false (sym ((group_ways L W z c x).1 (on ((group_ways L W z c y).0 e) (grouped_both W.ties x y q))) ∙ m.0)) in
        (ny, on m.1 (grouped_stays P x y m.0 ny q))

    heads-fewer : Within (suc W.given) (first_in_group X) (first_in_group W)
    unfolding first_in_group X
    heads-fewer d k e =
        let o = out d (and_left (live X d) _ e) in
        and_both (live W d) _ o.1 (ap not (none_below d (λ x. live W x && group_of W d x)
        (λ x j q. let m = still d o.0 ((group_ways L W z d x).0 (and_right (live W x) _ q)) in
        never (any_below d (λ y. live X y && group_of X d y)) (any_intro d (λ y. live X y && group_of X d y) x j
        (and_both (live X x) _ (P.on x m.0 (and_left (live W x) _ q)) ((group_ways L X (group_sound c lc) d x).1 m.1))) (and_right (live X d) _ e))))

    heads_less : group_count (end_all 4 (group_of W c) W) < group_count W
    unfolding group_count X end_all ties_left first_in_group
    heads_less = let r = head_of c lc in count-more (suc W.given) (first_in_group X) (first_in_group W) heads-fewer r.0 (live_below W r.0 r.1)
        (no_true (first_in_group X r.0) (λ q. true≢false (sym r.2 ∙ (out r.0 (and_left (live X r.0) _ q)).0))) r.3

  -- with all live changes completed, where one lives there is one whose group can commit
  module _ (ready : (c : ℕ) → live W c ≡ true → W.status c ≡ 3) where
    -- who blocks a group leads to it, and not back
    blocker : (x : ℕ) → live W x ≡ true → any_below (suc W.given) (commit_blockers W (group_of W x)) ≡ true
        → (y : ℕ) × (y < suc W.given) × (live W y ≡ true) × Way (leading W.ties) y x × (Way (leading W.ties) x y → ⊥)
    blocker x l e = let a = any_elim (suc W.given) _ e in
        ⊎_elim (λ m. absurd (m.1 (ready a.0 (group_live L W z x l a.0 m.0)))) (λ m. led a.0 m.0 m.1 m.2) (blocks W (group_of W x) a.0 a.2)
      where
        led : (y f : ℕ) → tied W.ties is_arrow y f ≡ true → group_of W x f ≡ true
            → (d : ℕ) × (d < suc W.given) × (live W d ≡ true) × Way (leading W.ties) d x × (Way (leading W.ties) x d → ⊥)
        led y f t g =
            let ly = (tied-ends (live W) W.ties (ends-live L W z) is_arrow y f t).0 in
            let w = way_map (by_group W.ties) (way_back (grouped_both W.ties) ((group_ways L W z x f).0 g)) in
            (y, live_below W y ly, ly, way_join (on stay (by_arrow W.ties y f t)) w, λ v. acyclic_clear W.ties (suc W.given) (ends_below_lem W z.ties) z.no_cycle_lem y f t (way_join w v))

    someone : (c : ℕ) → live W c ≡ true → (d : ℕ) × (live W d ≡ true) × (any_below (suc W.given) (commit_blockers W (group_of W d)) ≡ false)
    someone c lc = let r = source (suc W.given) (leading W.ties) (leading_bounded W.ties (suc W.given) (ends_below_lem W z.ties)) (live W) (λ d. any_below (suc W.given) (commit_blockers W (group_of W d)))
        (λ x h. blocker x) c (live_below W c lc) lc in (r.0, r.2, r.3)

-- what a commit leaves
data Committing (W : Window) (c : ℕ) : Window → Type 0 where
  kept : Committing W c W
  did : live W c ≡ true → any_below (suc W.given) (commit_blockers W (group_of W c)) ≡ false → Committing W c (end_all 4 (group_of W c) W)

-- what calls leave at the end
unfoldable pub final : {S : Type 0} → (S → Call → Reply S) → S → List Call → S
final make s [] = s
final make s (c ∷ l) = final make (make s c).after l

pub final_append : (L : Limits) (W : Window) (a b : List Call) → final (step L) W (a ++ b) ≡ final (step L) (final (step L) W a) b
unfolding final
final_append L W [] b = refl
final_append L W (c ∷ a) b = final_append L (step L W c).after a b

-- from W on, only commits: nobody is aborted, and the live groups become fewer unless nothing happens
record Fit (L : Limits) (W X : Window) : Type 0 where
  sound : Sound L X
  given : X.given ≡ W.given
  ready : (c : ℕ) → live X c ≡ true → X.status c ≡ 3
  good : (c : ℕ) → live W c ≡ true → (live X c ≡ true) ⊎ (shown_status X c ≡ 4)
  stay : (c : ℕ) → shown_status W c ≡ 4 → shown_status X c ≡ 4
  less : (X ≡ W) ⊎ (group_count X < group_count W)

fit_same : (L : Limits) (W : Window) → Sound L W → ((c : ℕ) → live W c ≡ true → W.status c ≡ 3) → Fit L W W
fit_same L W z r = record { sound = z; given = refl; ready = r; good = λ c l. inl l; stay = λ c e. e; less = inl refl }

fit_then : (L : Limits) (W X Y : Window) → Fit L W X → Fit L X Y → Fit L W Y
fit_then L W X Y f g = record {
  sound = g.sound;
  given = g.given ∙ f.given;
  ready = g.ready;
  good = λ c l. ⊎_elim (g.good c) (λ e. inr (g.stay c e)) (f.good c l);
  stay = λ c e. g.stay c (f.stay c e);
  less = go f.less g.less;
}
  where
    go : (X ≡ W) ⊎ (group_count X < group_count W) → (Y ≡ X) ⊎ (group_count Y < group_count X) → (Y ≡ W) ⊎ (group_count Y < group_count W)
    go (inl p) (inl q) = inl (q ∙ p)
    go (inl p) (inr q) = inr (rw p at q)
    go (inr p) (inl q) = inr (rw q p)
    go (inr p) (inr q) = inr (omega arith)

module _ (L : Limits) (W : Window) (z : Sound L W) where
  commit-step : (c : ℕ) → Committing W c (step L W (Commit c)).after
  unfolding step checks first_failed settle effect commit_change ◌if◌ done unchanged commit_group
  commit-step c = go (no_change W c) refl (eqb (W.status c) 4) refl (eqb (W.status c) 5) refl (any_below (suc W.given) (commit_blockers W (group_of W c))) refl _ _
    where
      go : (o : Bool) → no_change W c ≡ o → (a : Bool) → eqb (W.status c) 4 ≡ a → (b : Bool) → eqb (W.status c) 5 ≡ b → (d : Bool) → any_below (suc W.given) (commit_blockers W (group_of W c)) ≡ d → (i j : ℕ)
          → Committing W c (settle (cond o 3 0) W (cond a (done 0 W) (cond b (unchanged 21 0 W) (cond d (unchanged 20 i W) (done j (end_all 4 (group_of W c) W)))))).after
      go true n a p b q d r i j = kept
      go false n true p b q d r i j = kept
      go false n false p true q d r i j = kept
      go false n false p false q true r i j = kept
      go false n false p false q false r i j = did (live_of L W z c n p q) r

  commit_does : (c : ℕ) → live W c ≡ true → any_below (suc W.given) (commit_blockers W (group_of W c)) ≡ false → (step L W (Commit c)).after ≡ end_all 4 (group_of W c) W
  unfolding commit_group done
  commit_does c l e = rw (commit-live L W z c l, e)

  done-fits : (c : ℕ) → ((d : ℕ) → live W d ≡ true → W.status d ≡ 3) → live W c ≡ true → any_below (suc W.given) (commit_blockers W (group_of W c)) ≡ false
      → Sound L (end_all 4 (group_of W c) W) → Fit L W (end_all 4 (group_of W c) W)
  unfolding X put_all
  done-fits c r l e y = record {
    sound = y;
    given = given_same;
    ready = λ d h. status_same d (out L W z c l e d h);
    good = λ d ld. good d ld (group_of W c d) refl;
    stay = λ d h. stay d h (group_of W c d) refl;
    less = inr (heads_less L W z c l e);
  }
    where
      given_same : (end_all 4 (group_of W c) W).given ≡ W.given
      given_same = unfold end_all in refl

      status_same : (d : ℕ) → (group_of W c d ≡ false) × (live W d ≡ true) → (end_all 4 (group_of W c) W).status d ≡ 3
      status_same d o = unfold end_all in rw o.0 (r d o.1)

      good : (d : ℕ) → live W d ≡ true → (b : Bool) → group_of W c d ≡ b → (live (end_all 4 (group_of W c) W) d ≡ true) ⊎ (shown_status (end_all 4 (group_of W c) W) d ≡ 4)
      good d ld true q = inr ((P L W z c l e).ends d q).1
      good d ld false q = inl ((P L W z c l e).on d q ld)

      stay : (d : ℕ) → shown_status W d ≡ 4 → (b : Bool) → group_of W c d ≡ b → shown_status (end_all 4 (group_of W c) W) d ≡ 4
      stay d h true q = absurd (live_not W d ((P L W z c l e).ends d q).0 (ap is_ended h ∙ ended_4))
      stay d h false q = (P L W z c l e).stays d q (ap is_ended h ∙ ended_4) ∙ h

  commit-fits : (c : ℕ) (X : Window) → ((d : ℕ) → live W d ≡ true → W.status d ≡ 3) → Committing W c X → Fit L W X
  commit-fits c Y r kept = fit_same L W z r
  commit-fits c Y r (did l e) = done-fits c r l e (group_sound L W z c l)

no_more : (W X : Window) → (X ≡ W) ⊎ (group_count X < group_count W) → group_count X ≤ group_count W
no_more W X (inl p) = rw p (omega arith)
no_more W X (inr p) = omega arith

module _ (L : Limits) where
  walk_fits : (n i : ℕ) (W : Window) → Sound L W → ((c : ℕ) → live W c ≡ true → W.status c ≡ 3) → Fit L W (final (step L) W (table n i Commit))
  unfolding final table
  walk_fits zero i W z r = fit_same L W z r
  walk_fits (suc n) i W z r = let f = commit-fits L W z i _ r (commit-step L W z i) in
      fit_then L W _ _ f (walk_fits n (suc i) (step L W (Commit i)).after f.sound f.ready)

  walks_fit : (k n : ℕ) (W : Window) → Sound L W → ((c : ℕ) → live W c ≡ true → W.status c ≡ 3) → Fit L W (final (step L) W (walks k n))
  unfolding final walks
  walks_fit zero n W z r = fit_same L W z r
  walks_fit (suc k) n W z r = let f = walk_fits n 1 W z r in
      rw (final_append L W (table n 1 Commit) (walks k n)) (fit_then L W _ _ f (walks_fit k n (final (step L) W (table n 1 Commit)) f.sound f.ready))

  -- a walk past one whose group can commit ends some group
  walk_ends : (n i : ℕ) (W : Window) → Sound L W → ((c : ℕ) → live W c ≡ true → W.status c ≡ 3) → (c : ℕ) → i ≤ c → c < i + n
      → live W c ≡ true → any_below (suc W.given) (commit_blockers W (group_of W c)) ≡ false → group_count (final (step L) W (table n i Commit)) < group_count W
  unfolding final table
  walk_ends zero i W z r c p q l e = absurd (omega arith)
  walk_ends (suc n) i W z r c p q l e = go (same? i c) f.less (no_more _ _ g.less) (walk_ends n (suc i))
    where
      Y : Window
      Y = (step L W (Commit i)).after

      f : Fit L W Y
      f = commit-fits L W z i Y r (commit-step L W z i)

      g : Fit L Y (final (step L) Y (table n (suc i) Commit))
      g = walk_fits n (suc i) Y f.sound f.ready

      go : {b : Bool} → Same i c b → (Y ≡ W) ⊎ (group_count Y < group_count W) → group_count (final (step L) Y (table n (suc i) Commit)) ≤ group_count Y
          → ((U : Window) → Sound L U → ((d : ℕ) → live U d ≡ true → U.status d ≡ 3) → (d : ℕ) → suc i ≤ d → d < suc i + n
          → live U d ≡ true → any_below (suc U.given) (commit_blockers U (group_of U d)) ≡ false → group_count (final (step L) U (table n (suc i) Commit)) < group_count U)
          → group_count (final (step L) Y (table n (suc i) Commit)) < group_count W
      go (same x) y m ih = let u : group_count Y < group_count W = rw (ap (λ j. (step L W (Commit j)).after) x ∙ commit_does L W z c l e) (heads_less L W z c l e) in omega arith
      go (other x) (inl y) m ih = rw y (ih W z r c (omega arith) (omega arith) l e)
      go (other x) (inr y) m ih = omega arith

  pub all_end : (k : ℕ) (W : Window) → Sound L W → ((c : ℕ) → live W c ≡ true → W.status c ≡ 3) → group_count W ≤ k → (c : ℕ) → live W c ≡ true → shown_status (final (step L) W (walks k W.given)) c ≡ 4
  unfolding final walks
  all_end zero W z r h c l = absurd (no_heads L W z (omega arith) c l)
  all_end (suc k) W z r h c l = rw (final_append L W (table W.given 1 Commit) (walks k W.given))
      (⊎_elim (λ a. rw f.given at (all_end k X' f.sound f.ready fewer c a)) (λ a. (walks_fit k W.given X' f.sound f.ready).stay c a) (f.good c l))
    where
      X' : Window
      X' = final (step L) W (table W.given 1 Commit)

      f : Fit L W X'
      f = walk_fits W.given 1 W z r

      fewer : group_count X' ≤ k
      fewer = let s = someone L W z r c l in let u : 0 < s.0 = positive s.0 s.1 in
          let v = walk_ends W.given 1 W z r s.0 (omega arith) (omega (arith, live_below W s.0 s.1)) s.1 s.2 in omega arith
        where
          positive : (d : ℕ) → live W d ≡ true → 0 < d
          positive zero q = absurd (false≢true (sym (live_zero L W z) ∙ q))
          positive (suc d) q = omega arith
