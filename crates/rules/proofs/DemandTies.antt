-- Made ties, and when their ends ended: what every call keeps. Assumes nothing.
use mathlib.Core.Path.{◌≡◌, refl, sym, ◌∙◌, ap}
use mathlib.Core.Logic.{◌⊎◌, inl, inr, ⊎_elim, ◌≢◌}
use mathlib.Core.Bool.{Bool, true, false, not, cond, ◌&&◌, ◌||◌, false≢true, true≢false}
use mathlib.Core.List.{List, [], ◌∷◌}
use Prim.Native.Nat.{ℕ, suc, ◌≤◌, ◌<◌}
use native.Mathlib.Omega.{arith}
use lib.Dec.{eqb}
use lib.ListN.{length}
use borrow.Author.Tests.{eqb-true, ne_eqb}
use Rattle.rules.specs.Base.{any}
use Rattle.rules.specs.Sets.{Set}
use Rattle.rules.specs.Window.{Window, fresh, is_ended, live, no_change}
use Rattle.rules.specs.Ties.{is_wait, is_fall, is_arrow, tied, grouped, is_group}
use Rattle.rules.specs.Events.{Event, action, is_tying}
use Rattle.rules.specs.Lists.{status, ended_as, ended_at, tie_made, Grouped, itself, along, against}
use Rattle.rules.proofs.BaseLaws.{or_right, or_cases, and_left, and_right, cond_same}
use Rattle.rules.proofs.DemandEnds.{Ending, how_ended, grouped_stays, New, of_kind}
use Rattle.rules.proofs.DemandMoves.{shown_status, ended_0, ended_4, ended_5, live_unended, live_not}
use Rattle.rules.proofs.TieLaws.{arrow_not_group, grouped_both}

-- what an arrow's leader has come to when its follower may commit
unfoldable pub passes : ℕ → ℕ → Bool
passes k x = is_ended x && (not (eqb k 2) || eqb x 4)

-- a made group tie stands between two live ones, or its ends have ended together
pub data Bound (W : Window) (p : List Event) (l f : ℕ) : Type 0 where
  stands : live W l ≡ true → live W f ≡ true → grouped W.ties l f ≡ true → Bound W p l f
  ended : is_ended (shown_status W l) ≡ true → shown_status W f ≡ shown_status W l → ended_at p f ≡ ended_at p l → Bound W p l f

-- it goes both ways
pub bound_back : {W : Window} {p : List Event} {l f : ℕ} → Bound W p l f → Bound W p f l
bound_back {W} {l = l} {f} (stands a b g) = stands b a (grouped_both W.ties l f g)
bound_back (ended a b t) = ended (ap is_ended b ∙ a) (sym b) (sym t)

-- a made arrow stands, or its follower was aborted, or its leader has ended, as the kind asks, and the follower has not, or ended later
pub data Led (W : Window) (p : List Event) (k l f : ℕ) : Type 0 where
  stands : live W l ≡ true → live W f ≡ true → tied W.ties (of_kind k) l f ≡ true → Led W p k l f
  fell : shown_status W f ≡ 5 → Led W p k l f
  led : passes k (shown_status W l) ≡ true → (is_ended (shown_status W f) ≡ false) ⊎ (ended_at p l < ended_at p f) → Led W p k l f

-- what every call keeps of statuses, ends and made ties
pub record TieHistory (W : Window) (p : List Event) : Type 0 where
  pub shown : (c : ℕ) → status p c ≡ shown_status W c
  past : (c : ℕ) → is_ended (shown_status W c) ≡ true → (0 < ended_at p c) × (ended_at p c ≤ length p)
  yet : (c : ℕ) → is_ended (shown_status W c) ≡ false → ended_at p c ≡ 0
  lasts : (c : ℕ) → is_ended (shown_status W c) ≡ true → ended_as p c ≡ shown_status W c
  pub bound : (l f : ℕ) → tie_made p 3 l f ≡ true → Bound W p l f
  drawn : (k l f : ℕ) → is_arrow k ≡ true → tie_made p k l f ≡ true → Led W p k l f

at_kept : (e : Event) (p : List Event) (c : ℕ) → 0 < ended_at p c → ended_at (e ∷ p) c ≡ ended_at p c
unfolding ended_at
at_kept e p c h = rw (ne_eqb (ended_at p c) 0 (λ q. omega arith))

at_first : (e : Event) (p : List Event) (c : ℕ) → ended_at p c ≡ 0 → ended_at (e ∷ p) c ≡ cond (is_ended (e.status c)) (suc (length p)) 0
unfolding ended_at
at_first e p c h = rw h

-- the status with which it ended, kept or taken from the call that ended it
as_kept : (e : Event) (p : List Event) (c : ℕ) → 0 < ended_at p c → ended_as (e ∷ p) c ≡ ended_as p c
unfolding ended_as
as_kept e p c h = rw (ne_eqb (ended_at p c) 0 (λ q. omega arith))

as_first : (e : Event) (p : List Event) (c : ℕ) → ended_at p c ≡ 0 → is_ended (e.status c) ≡ true → ended_as (e ∷ p) c ≡ e.status c
unfolding ended_as
as_first e p c h k = rw (h, k)

module _ (W X : Window) (s : Set) (how : ℕ) (P : Ending W X s how) (p : List Event) (S : TieHistory W p) (e : Event) (shows : (c : ℕ) → e.status c ≡ shown_status X c) where
  -- a change before and after the call
  data Now (c : ℕ) : Type 0 where
    gone : is_ended (shown_status W c) ≡ true → shown_status X c ≡ shown_status W c → ended_at (e ∷ p) c ≡ ended_at p c → Now c
    ending : s c ≡ true → live W c ≡ true → shown_status X c ≡ how → is_ended how ≡ true → ended_at p c ≡ 0 → ended_at (e ∷ p) c ≡ suc (length p) → Now c
    going : s c ≡ false → is_ended (shown_status W c) ≡ false → is_ended (shown_status X c) ≡ false → ended_at (e ∷ p) c ≡ 0 → Now c

  now : (c : ℕ) → Now c
  now c = go (s c) refl (is_ended (shown_status W c)) refl (is_ended (shown_status X c)) refl
    where
      go : (a : Bool) → s c ≡ a → (b : Bool) → is_ended (shown_status W c) ≡ b → (d : Bool) → is_ended (shown_status X c) ≡ d → Now c
      go true i b j d k =
          let lc = (P.ends c i).0 in let sx = (P.ends c i).1 in let z = S.yet c (live_unended W c lc) in
          ending i lc sx (how_ended P) z (at_first e p c z ∙ rw (shows c, sx, (how_ended P)))
      go false i true j d k = gone j (P.stays c i j) (at_kept e p c (S.past c j).0)
      go false i false j true k = absurd (true≢false (sym (P.fewer c i k) ∙ j))
      go false i false j false k = let z = S.yet c j in going i j k (at_first e p c z ∙ rw (shows c, k))

  past_next : (c : ℕ) → is_ended (shown_status X c) ≡ true → (0 < ended_at (e ∷ p) c) × (ended_at (e ∷ p) c ≤ suc (length p))
  past_next c h = go (now c)
    where
      go : Now c → (0 < ended_at (e ∷ p) c) × (ended_at (e ∷ p) c ≤ suc (length p))
      go (gone j k a) = let u = S.past c j in rw a (omega arith)
      go (ending i l k x z a) = rw a (omega arith)
      go (going i j k a) = absurd (true≢false (sym h ∙ k))

  yet_next : (c : ℕ) → is_ended (shown_status X c) ≡ false → ended_at (e ∷ p) c ≡ 0
  yet_next c h = go (now c)
    where
      go : Now c → ended_at (e ∷ p) c ≡ 0
      go (gone j k a) = absurd (true≢false (sym j ∙ ap is_ended (sym k) ∙ h))
      go (ending i l k x z a) = absurd (true≢false (sym x ∙ ap is_ended (sym k) ∙ h))
      go (going i j k a) = a

  lasts-next : (c : ℕ) → is_ended (shown_status X c) ≡ true → ended_as (e ∷ p) c ≡ shown_status X c
  lasts-next c h = go (now c)
    where
      go : Now c → ended_as (e ∷ p) c ≡ shown_status X c
      go (gone j k a) = as_kept e p c (S.past c j).0 ∙ S.lasts c j ∙ sym k
      go (ending i l k x z a) = as_first e p c z (ap is_ended (shows c) ∙ h) ∙ shows c
      go (going i j k a) = absurd (true≢false (sym h ∙ k))

  bound_next : (l f : ℕ) → Bound W p l f → Bound X (e ∷ p) l f
  bound_next l f (stands a b g) = go (now l) (now f)
    where
      go : Now l → Now f → Bound X (e ∷ p) l f
      go (gone j k t) y = absurd (live_not W l a j)
      go (ending i l' k x z t) (gone j k' t') = absurd (live_not W f b j)
      go (ending i l' k x z t) (ending i' l'' k' x' z' t') = ended (ap is_ended k ∙ x) (k' ∙ sym k) (t' ∙ sym t)
      go (ending i l' k x z t) (going i' j' k' t') = absurd (true≢false (sym (P.together l f a b g i) ∙ i'))
      go (going i j k t) (gone j' k' t') = absurd (live_not W f b j')
      go (going i j k t) (ending i' l'' k' x' z' t') = absurd (true≢false (sym (P.together f l b a (grouped_both W.ties l f g) i') ∙ i))
      go (going i j k t) (going i' j' k' t') = stands (P.on l i a) (P.on f i' b) (grouped_stays P l f i i' g)
  bound_next l f (ended a b t) = go (now l) (now f)
    where
      go : Now l → Now f → Bound X (e ∷ p) l f
      go (ending i l' k x z t') y = absurd (live_not W l l' a)
      go (going i j k t') y = absurd (true≢false (sym a ∙ j))
      go (gone j k t') (gone j' k' t'') = ended (ap is_ended k ∙ a) (k' ∙ b ∙ sym k) (t'' ∙ t ∙ sym t')
      go (gone j k t') (ending i' l'' k' x' z' t'') = absurd (live_not W f l'' (ap is_ended b ∙ a))
      go (gone j k t') (going i' j' k' t'') = absurd (true≢false (sym a ∙ ap is_ended (sym b) ∙ j'))

  passes_4 : (k : ℕ) → passes k 4 ≡ true
  unfolding passes is_ended
  passes_4 k = or_right (not (eqb k 2)) true refl

  passes_5 : (k : ℕ) → eqb k 2 ≡ false → passes k 5 ≡ true
  unfolding passes is_ended
  passes_5 k h = rw h

  passes_ended : (k x : ℕ) → passes k x ≡ true → is_ended x ≡ true
  unfolding passes
  passes_ended k x = and_left (is_ended x) _

  led-next : (k l f : ℕ) → is_arrow k ≡ true → Led W p k l f → Led X (e ∷ p) k l f
  led-next k l f r (stands a b t) = go (now f) (now l)
    where
      leaves : shown_status X l ≡ how → s l ≡ true → s f ≡ false → is_ended (shown_status X f) ≡ false → (how ≡ 4) ⊎ (how ≡ 5) → (x : Bool) → eqb k 2 ≡ x → Led X (e ∷ p) k l f
      leaves i u v w (inl q) x y = led (ap (passes k) (i ∙ q) ∙ passes_4 k) (inl w)
      leaves i u v w (inr q) true y = absurd (true≢false (sym (P.fallen l f a b (rw (eqb-true k 2 y) at t) q u) ∙ v))
      leaves i u v w (inr q) false y = led (ap (passes k) (i ∙ q) ∙ passes_5 k y) (inl w)

      go : Now f → Now l → Led X (e ∷ p) k l f
      go (gone j k' t') y = absurd (live_not W f b j)
      go (ending i l' k' x' z t') y = ⊎_elim (λ q. absurd (P.unled k l f r t q i)) (λ q. fell (k' ∙ q)) P.way
      go (going i' j' k'' t'') (gone j k' t') = absurd (live_not W l a j)
      go (going i' j' k'' t'') (ending i l' k' x' z t') = leaves k' i i' k'' P.way (eqb k 2) refl
      go (going i' j' k'' t'') (going i j k' t') = stands (P.on l i a) (P.on f i' b) (P.ties (of_kind k) l f i i' t)
  led-next k l f r (fell h) = go (now f)
    where
      go : Now f → Led X (e ∷ p) k l f
      go (gone j k' t) = fell (k' ∙ h)
      go (ending i l' k' x z t) = absurd (live_not W f l' (ap is_ended h ∙ ended_5))
      go (going i j k' t) = absurd (true≢false (sym ended_5 ∙ ap is_ended (sym h) ∙ j))
  led-next k l f r (led a b) = go (now l) (now f) b
    where
      go : Now l → Now f → (is_ended (shown_status W f) ≡ false) ⊎ (ended_at p l < ended_at p f) → Led X (e ∷ p) k l f
      go (ending i l' k' x z t) y c = absurd (live_not W l l' (passes_ended k (shown_status W l) a))
      go (going i j k' t) y c = absurd (true≢false (sym (passes_ended k (shown_status W l) a) ∙ j))
      go (gone j k' t) (gone j' k'' t') (inl c) = absurd (true≢false (sym j' ∙ c))
      go (gone j k' t) (gone j' k'' t') (inr c) = led (ap (passes k) k' ∙ a) (inr (rw (t, t') c))
      go (gone j k' t) (ending i' l'' k'' x z t') c = let u = S.past l j in led (ap (passes k) k' ∙ a) (inr (rw (t, t') (omega arith)))
      go (gone j k' t) (going i' j' k'' t') c = led (ap (passes k) k' ∙ a) (inl k'')

  module _ (new : (k l f : ℕ) → is_tying k l f (action e) ≡ true → New X k l f) where
    pub story_next : TieHistory X (e ∷ p)
    unfolding tie_made any status
    story_next = record {
      shown = shows;
      past = past_next;
      yet = yet_next;
      lasts = lasts-next;
      bound = λ l f h. ⊎_elim (λ q. let n = new 3 l f q in stands n.lead n.follow (n.group refl)) (λ q. bound_next l f (S.bound l f q)) (or_cases (is_tying 3 l f (action e)) _ h);
      drawn = λ k l f r h. ⊎_elim (λ q. let n = new k l f q in stands n.lead n.follow (n.arrow (unfold is_group in arrow_not_group k r))) (λ q. led-next k l f r (S.drawn k l f r q)) (or_cases (is_tying k l f (action e)) _ h);
    }

-- the window that an open has left
pub story_fresh : (n : ℕ) (e : Event) → ((c : ℕ) → e.status c ≡ shown_status (fresh n) c) → ((k l f : ℕ) → is_tying k l f (action e) ≡ false) → TieHistory (fresh n) (e ∷ [])
unfolding tie_made any status shown_status fresh ended_at
story_fresh n e shows un = record {
  shown = shows;
  past = λ c h. absurd (true≢false (sym h ∙ ap is_ended (nobody c) ∙ ended_0));
  yet = λ c h. rw (shows c, nobody c, ended_0);
  lasts = λ c h. absurd (true≢false (sym h ∙ ap is_ended (nobody c) ∙ ended_0));
  bound = λ l f h. absurd (none 3 l f h);
  drawn = λ k l f r h. absurd (none k l f h);
}
  where
    nobody : (c : ℕ) → shown_status (fresh n) c ≡ 0
    nobody c = cond_same (no_change (fresh n) c) 0

    none : (k l f : ℕ) → is_tying k l f (action e) || false ≡ true → ⊥
    none k l f h = false≢true (rw (un k l f) at h)

-- what the story says of an ended change, and of a committed one
module _ (W : Window) (p : List Event) (S : TieHistory W p) where
  pub story_lasts : (c : ℕ) → ended_at p c ≢ 0 → status p c ≡ ended_as p c
  story_lasts c h = go (is_ended (shown_status W c)) refl
    where
      go : (b : Bool) → is_ended (shown_status W c) ≡ b → status p c ≡ ended_as p c
      go true e = S.shown c ∙ sym (S.lasts c e)
      go false e = absurd (h (S.yet c e))

  is_4 : (c : ℕ) → status p c ≡ 4 → shown_status W c ≡ 4
  is_4 c h = sym (S.shown c) ∙ h

  never_live : (c : ℕ) → status p c ≡ 4 → live W c ≡ true → ⊥
  never_live c h l = live_not W c l (ap is_ended (is_4 c h) ∙ ended_4)

  one_tie : (b c : ℕ) → Bound W p b c → status p b ≡ 4 → (status p c ≡ 4) × (ended_at p c ≡ ended_at p b)
  one_tie b c (stands x y g) h = absurd (never_live b h x)
  one_tie b c (ended x y t) h = (S.shown c ∙ y ∙ is_4 b h, t)

  pub story_groups : (c d : ℕ) → status p c ≡ 4 → Grouped p c d → (status p d ≡ 4) × (ended_at p d ≡ ended_at p c)
  story_groups c d h itself = (h, refl)
  story_groups c d h (along {b} {c = x} g m) = let u = story_groups c b h g in let v = one_tie b x (S.bound b x m) u.0 in (v.0, v.1 ∙ u.1)
  story_groups c d h (against {b} {c = x} g m) = let u = story_groups c b h g in let v = one_tie b x (bound_back (S.bound x b m)) u.0 in (v.0, v.1 ∙ u.1)

  led-before : (k c d : ℕ) → status p c ≡ 4 → Led W p k d c → (passes k (status p d) ≡ true) × (ended_at p d < ended_at p c)
  led-before k c d h (stands x y t) = absurd (never_live c h y)
  led-before k c d h (fell q) = absurd (let z : ◌≡◌ {A = ℕ} 4 5 = sym (is_4 c h) ∙ q in omega arith)
  led-before k c d h (led q (inl y)) = absurd (true≢false (sym ended_4 ∙ ap is_ended (sym (is_4 c h)) ∙ y))
  led-before k c d h (led q (inr y)) = (ap (passes k) (S.shown d) ∙ q, y)

  pub story_falls : (c d : ℕ) → status p c ≡ 4 → tie_made p 2 d c ≡ true → (status p d ≡ 4) × (ended_at p d < ended_at p c)
  unfolding passes is_arrow is_wait is_fall
  story_falls c d h m = let u = led-before 2 c d h (S.drawn 2 d c refl m) in (eqb-true (status p d) 4 (and_right (is_ended (status p d)) _ u.0), u.1)

  pub story_waits : (c d : ℕ) → status p c ≡ 4 → tie_made p 1 d c ≡ true → (is_ended (status p d) ≡ true) × (ended_at p d < ended_at p c)
  unfolding passes is_arrow is_wait is_fall
  story_waits c d h m = let u = led-before 1 c d h (S.drawn 1 d c refl m) in (and_left (is_ended (status p d)) _ u.0, u.1)
