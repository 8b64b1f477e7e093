-- Demand 3 of the rules, for any largest figures. Assumes nothing.
use mathlib.Core.Path.{◌≡◌, refl, sym, ◌∙◌, ap}
use mathlib.Core.Logic.{⊎_elim}
use mathlib.Core.Bool.{Bool, true, false, not, cond, ◌&&◌, ◌||◌, false≢true, true≢false}
use mathlib.Core.List.{List, [], ◌∷◌, ◌++◌}
use Prim.Native.Nat.{ℕ, suc, ◌≤◌, ◌<◌}
use native.Mathlib.Omega.{arith}
use Rattle.rules.specs.Base.{any_below, all, outside}
use Rattle.rules.specs.Window.{Limits, Window, fresh, with_held, with_line, with_permits, with_ties, with_value, is_live, no_change, live, with_log}
use Rattle.rules.specs.Ties.{grouped, group_of}
use Rattle.rules.specs.Calls.{Call, Open, fits}
use Rattle.rules.specs.Effects.{end_all, add_change, hand_over, withdraw}
use Rattle.rules.specs.Refusals.{step}
use Rattle.rules.specs.Events.{Event, Action, opening, initiating, nothing, locking, permitting, delegating, tying, action_of, action, is_opening, is_tying, highest_after}
use Rattle.rules.specs.Lists.{status, remember, event, history, tie_made, enter, strike, book, highest, is_grouped, first_of_group, live_groups, walks, Demand3After, Demand3}
use Rattle.rules.proofs.BaseLaws.{never, none_below, within_of, or_cases, and_both, and_left, and_right, any_intro, Within, count-within}
use Rattle.rules.proofs.DemandBook.{book_of, strike_same, book-next, clash-permitted}
use Rattle.rules.proofs.DemandEnds.{ending_of, fresh_tie}
use Rattle.rules.proofs.DemandMoves.{shown_status, status-shown, Move, opened, started, calm, locked, granted, handed, depended, committed, aborted, move, live_not, live-status}
use Rattle.rules.proofs.DemandTies.{TieHistory, Bound, stands, ended, bound_back, story_next, story_fresh, story_lasts, story_groups, story_falls, story_waits}
use Rattle.rules.proofs.DemandWalks.{final, final_append, first_in_group, group_count, all_end}
use Rattle.rules.proofs.SetLaws.{reach-closed, reach-least}
use Rattle.rules.proofs.TieLaws.{group_seed}
use Rattle.rules.proofs.SoundParts.{live_below, Sound, given-live, live-change}
use Rattle.rules.proofs.SoundStep.{step-sound, opened_sound, opened_fresh, group_live}

-- the window after a list, and its history
pub record Inv (L : Limits) (W : Window) (p : List Event) : Type 0 where
  pub sound : Sound L W
  pub story : TieHistory W p
  pub booked : book p ≡ book_of W
  pub top : highest p ≡ W.given

is_opening_lem : (d : Action) → is_opening d ≡ true → d ≡ opening
unfolding is_opening
is_opening_lem opening e = refl
is_opening_lem initiating e = absurd (false≢true e)
is_opening_lem nothing e = absurd (false≢true e)
is_opening_lem (locking c x m) e = absurd (false≢true e)
is_opening_lem (permitting g t x o) e = absurd (false≢true e)
is_opening_lem (delegating f t x) e = absurd (false≢true e)
is_opening_lem (tying k l f) e = absurd (false≢true e)

opening_fresh : (W : Window) {d : Action} {k : ℕ} {X : Window} → Move W d k X → is_opening d ≡ true → (n : ℕ) × (X ≡ fresh n)
unfolding is_opening
opening_fresh W (opened n k) e = (n, refl)
opening_fresh W (started p) e = absurd (false≢true e)
opening_fresh W (calm k X q) e = absurd (false≢true e)
opening_fresh W (locked c x m k h w q) e = absurd (false≢true e)
opening_fresh W (granted g t x o k) e = absurd (false≢true e)
opening_fresh W (handed g t x k) e = absurd (false≢true e)
opening_fresh W (depended j m g k a b) e = absurd (false≢true e)
opening_fresh W (committed c k a b) e = absurd (false≢true e)
opening_fresh W (aborted c k a) e = absurd (false≢true e)

given-next : (W : Window) {d : Action} {k : ℕ} {X : Window} → Move W d k X → is_opening d ≡ false → highest_after d k W.given ≡ X.given
unfolding is_opening highest_after add_change with_held with_line with_permits with_ties with_value hand_over end_all withdraw with_log
given-next W (opened n k) e = absurd (true≢false e)
given-next W (started p) e = omega arith
given-next W (calm k X q) e = sym q.given
given-next W (locked c x m k h w q) e = refl
given-next W (granted g t x o k) e = refl
given-next W (handed g t x k) e = refl
given-next W (depended j m g k a b) e = refl
given-next W (committed c k a b) e = refl
given-next W (aborted c k a) e = refl

module _ (L : Limits) where
  -- an open answered 0
  inv_fresh : (n : ℕ) (e : Event) (p : List Event) → is_opening (action e) ≡ true → Sound L (fresh n) → ((c : ℕ) → e.status c ≡ shown_status (fresh n) c) → Inv L (fresh n) (remember e p)
  unfolding remember book highest
  inv_fresh n e p o z shows = rw o (record {
    sound = z;
    story = story_fresh n e shows (λ k l f. rw (is_opening_lem (action e) o) (untied k l f));
    booked = rw (is_opening_lem (action e) o) (unfold enter book_of fresh in strike_same L (fresh n) z e.status shows);
    top = rw (is_opening_lem (action e) o) (unfold highest_after fresh in refl);
  })
    where
      untied : (k l f : ℕ) → is_tying k l f opening ≡ false
      untied k l f = unfold is_tying in refl

  inv_open : (X : Window) (n : ℕ) → X ≡ fresh n → (e : Event) (p : List Event) → is_opening (action e) ≡ true → Sound L X → ((c : ℕ) → e.status c ≡ shown_status X c) → Inv L X (remember e p)
  inv_open X n q e p o z shows = rw q (inv_fresh n e p o (rw q at z) (λ c. shows c ∙ ap (λ Y. shown_status Y c) q))

  inv_next : (W X : Window) (p : List Event) (e : Event) → Inv L W p → Move W (action e) e.number X → Sound L X → ((c : ℕ) → e.status c ≡ shown_status X c) → Inv L X (remember e p)
  unfolding remember book highest
  inv_next W X p e v m z shows = go (is_opening (action e)) refl
    where
      go : (b : Bool) → is_opening (action e) ≡ b → Inv L X (remember e p)
      go true o = let u = opening_fresh W m o in inv_open X u.0 u.1 e p o z shows
      go false o = let q = ending_of L W v.sound m o in rw o (record {
        sound = z;
        story = story_next W X q.0 q.1 q.2 p v.story e shows (fresh_tie W m);
        booked = ap (λ b. strike e.status (enter (action e) b)) v.booked ∙ book-next L W v.sound m z e.status shows o;
        top = ap (highest_after (action e) e.number) v.top ∙ given-next W m o;
      })

  -- statuses after a list are those of the window that it leaves
  hist_status : (l : List Call) (W : Window) (p : List Event) → ((c : ℕ) → status p c ≡ shown_status W c) → (c : ℕ) → status (history (step L) W p l) c ≡ shown_status (final (step L) W l) c
  unfolding history final event remember status
  hist_status [] W p h = h
  hist_status (x ∷ l) W p h = hist_status l (step L W x).after (remember (event (step L) W x) p) (λ c. status-shown L (step L W x).after c)

  live-shown : (W : Window) → Sound L W → (c : ℕ) → live W c ≡ true → shown_status W c ≡ W.status c
  unfolding shown_status
  live-shown W z c h = rw (live-change L W z c h)

  shown-live : (W : Window) (c : ℕ) → is_live (shown_status W c) ≡ true → live W c ≡ true
  unfolding shown_status outside
  shown-live W c = go (no_change W c) refl
    where
      go : (b : Bool) → no_change W c ≡ b → is_live (cond b 0 (W.status c)) ≡ true → live W c ≡ true
      go true n h = absurd (false≢true h)
      go false n h = given-live W c n h

  -- grouped live changes are one group of the window
  module _ (W : Window) (p : List Event) (v : Inv L W p) where
    tied_now : (x y : ℕ) → live W x ≡ true → tie_made p 3 x y || tie_made p 3 y x ≡ true → grouped W.ties x y ≡ true
    tied_now x y l e = ⊎_elim (λ q. forth (v.story.bound x y q)) (λ q. forth (bound_back (v.story.bound y x q))) (or_cases (tie_made p 3 x y) _ e)
      where
        forth : Bound W p x y → grouped W.ties x y ≡ true
        forth (stands a b g) = g
        forth (ended a b t) = absurd (live_not W x l a)

    group_step : (c x y : ℕ) → live W c ≡ true → x < suc W.given → y < suc W.given → group_of W c x ≡ true → tie_made p 3 x y || tie_made p 3 y x ≡ true → group_of W c y ≡ true
    group_step c x y lc hx hy g e = next (tied_now x y (group_live L W v.sound c lc x g) e)
      where
        next : grouped W.ties x y ≡ true → group_of W c y ≡ true
        next t = unfold group_of in reach-closed (suc W.given) (grouped W.ties) c x y hx hy g t

    grouped_in : (c d : ℕ) → live W c ≡ true → d < suc W.given → is_grouped p c d ≡ true → group_of W c d ≡ true
    unfolding is_grouped
    grouped_in c d lc hd e = reach-least (suc W.given) (λ a b. tie_made p 3 a b || tie_made p 3 b a) c (group_of W c) (group_seed W c) (λ x y hx hy g t. group_step c x y lc hx hy g t) d hd (rw v.top at e)

    heads_lead : Within (suc W.given) (first_in_group W) (first_of_group p)
    unfolding first_in_group first_of_group
    heads_lead c k h = let l = and_left (live W c) _ h in
        and_both (is_live (status p c)) _ (rw (v.story.shown c, live-shown W v.sound c l) (live-status W c l))
        (ap not (none_below c (λ d. is_live (status p d) && is_grouped p c d) (λ d j e.
        let ld : live W d ≡ true = shown-live W d (rw (v.story.shown d) at (and_left (is_live (status p d)) _ e)) in
        never (any_below c (λ x. live W x && group_of W c x))
        (any_intro c (λ x. live W x && group_of W c x) d j (and_both (live W d) _ ld (grouped_in c d l (live_below W d ld) (and_right (is_live (status p d)) _ e))))
        (and_right (live W c) _ h))))

    fewer : group_count W ≤ live_groups p
    unfolding group_count live_groups
    fewer = rw v.top (count-within (suc W.given) (first_in_group W) (first_of_group p) heads_lead)

  pub call_inv : (c : Call) (W : Window) (p : List Event) → Inv L W p → Sound L (step L W c).after → Inv L (step L W c).after (remember (event (step L) W c) p)
  unfolding event action
  call_inv c W p v z = inv_next W (step L W c).after p (event (step L) W c) v (move L W v.sound c) z (status-shown L (step L W c).after)

  pub first_inv : (W : Window) (n : ℕ) → (step L W (Open n)).answer ≡ 0 → (step L W (Open n)).after ≡ fresh n → Sound L (step L W (Open n)).after
      → Inv L (step L W (Open n)).after (remember (event (step L) W (Open n)) [])
  unfolding event action is_opening action_of
  first_inv W n a q z = inv_open (step L W (Open n)).after n q (event (step L) W (Open n)) [] (rw a) z (status-shown L (step L W (Open n)).after)

  hist_inv : (l : List Call) (W : Window) (p : List Event) → Inv L W p → all fits l ≡ true → Inv L (final (step L) W l) (history (step L) W p l)
  unfolding history final all
  hist_inv [] W p v f = v
  hist_inv (c ∷ l) W p v f = let h = step-sound L W c (and_left (fits c) _ f) v.sound in
      hist_inv l (step L W c).after (remember (event (step L) W c) p) (call_inv c W p v h) (and_right (fits c) _ f)

  -- what holds of a history that a window stands at the end of
  kept_of : (W₀ : Window) (p₀ : List Event) → ((c : ℕ) → status p₀ c ≡ shown_status W₀ c) → (l : List Call) → Inv L (final (step L) W₀ l) (history (step L) W₀ p₀ l) → Demand3After (λ k. history (step L) W₀ p₀ k) l
  kept_of W₀ p₀ st l v = record {
    kept = record {
      lasts = story_lasts W p v.story;
      groups = story_groups W p v.story;
      falls = story_falls W p v.story;
      waits = story_waits W p v.story;
      clashes = λ e a b n. rw v.booked (unfold book_of in clash-permitted L W v.sound e a b n);
    };
    walked = λ r c h. hist_status (l ++ walks (live_groups p) (highest p)) W₀ p₀ st c
        ∙ ap (λ X. shown_status X c) (final_append L W₀ l (walks (live_groups p) (highest p)))
        ∙ rw v.top (all_end L (live_groups p) W v.sound (λ d k. ready r d k) (fewer W p v) c (alive c h));
  }
    where
      W : Window
      W = final (step L) W₀ l

      p : List Event
      p = history (step L) W₀ p₀ l

      alive : (c : ℕ) → is_live (status p c) ≡ true → live W c ≡ true
      alive c h = shown-live W c (rw (v.story.shown c) at h)

      ready : ((c : ℕ) → is_live (status p c) ≡ true → status p c ≡ 3) → (c : ℕ) → live W c ≡ true → W.status c ≡ 3
      ready r c k = let e = live-shown W v.sound c k in sym e ∙ sym (v.story.shown c) ∙ r c (rw (v.story.shown c, e) (live-status W c k))

  pub rules_inv : (s : Window) (n : ℕ) → (step L s (Open n)).answer ≡ 0 → (l : List Call) → all fits l ≡ true
      → Inv L (final (step L) (step L s (Open n)).after l) (history (step L) (step L s (Open n)).after (remember (event (step L) s (Open n)) []) l)
  rules_inv s n e l f = hist_inv l (step L s (Open n)).after (remember (event (step L) s (Open n)) []) (first_inv s n e (opened_fresh L s n e) (opened_sound L s n e)) f

  -- the highest number given is the window's, so within the largest figure
  pub rules_highest : (s : Window) (n : ℕ) → (step L s (Open n)).answer ≡ 0 → (l : List Call) → all fits l ≡ true → highest (history (step L) s [] (Open n ∷ l)) ≤ L.changes
  unfolding history
  rules_highest s n e l f = let v = rules_inv s n e l f in rw v.top (within_of _ L.changes v.sound.changes)

  pub rules_kept : Demand3 (step L)
  unfolding history status event remember
  rules_kept s n e l f = kept_of (step L s (Open n)).after (remember (event (step L) s (Open n)) []) (status-shown L (step L s (Open n)).after) l (rules_inv s n e l f)
