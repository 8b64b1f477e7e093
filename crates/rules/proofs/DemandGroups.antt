-- The test `is_grouped`, by which live groups are counted, says what `Grouped` says. Assumes nothing.
use mathlib.Core.Path.{◌≡◌, refl, ◌∙◌, ap}
use mathlib.Core.Logic.{⊎_elim, ◌↔◌}
use mathlib.Core.Bool.{Bool, true, false, cond, false≢true}
use mathlib.Core.List.{List, [], ◌∷◌}
use Prim.Native.Nat.{ℕ, suc, ◌<◌}
use native.Mathlib.Omega.{arith}
use Rattle.rules.specs.Base.{all}
use Rattle.rules.specs.Window.{Limits, Window, is_ended, no_change}
use Rattle.rules.specs.Calls.{Call, Open, fits}
use Rattle.rules.specs.Refusals.{step}
use Rattle.rules.specs.Events.{Event}
use Rattle.rules.specs.Lists.{history, tie_made, Grouped, itself, along, against, highest, is_grouped}
use Rattle.rules.proofs.BaseLaws.{or_left, or_right, or_cases}
use Rattle.rules.proofs.Demand.{Inv, rules_inv}
use Rattle.rules.proofs.DemandMoves.{shown_status}
use Rattle.rules.proofs.DemandTies.{Bound, stands, ended}
use Rattle.rules.proofs.SetLaws.{reach-to, reach_seed, reach-closed}
use Rattle.rules.proofs.SoundParts.{numbered, live_below}

test_grouped : (p : List Event) (a b : ℕ) → is_grouped p a b ≡ true → Grouped p a b
unfolding is_grouped
test_grouped p a b = reach-to (suc (highest p)) _ (Grouped p a) (λ d e h g q. ⊎_elim (along g) (against g) (or_cases (tie_made p 3 d e) _ q)) a itself b

module _ (L : Limits) (W : Window) (p : List Event) (v : Inv L W p) where
  ended_below : (c : ℕ) → is_ended (shown_status W c) ≡ true → c < suc W.given
  unfolding shown_status is_ended
  ended_below c = go (no_change W c) refl
    where
      go : (b : Bool) → no_change W c ≡ b → is_ended (cond b 0 (W.status c)) ≡ true → c < suc W.given
      go true n h = absurd (false≢true h)
      go false n h = omega (arith, numbered W c n)

  bound_below : (l f : ℕ) → Bound W p l f → (l < suc W.given) × (f < suc W.given)
  bound_below l f (stands a b g) = (live_below W l a, live_below W f b)
  bound_below l f (ended a b t) = (ended_below l a, ended_below f (ap is_ended b ∙ a))

  grouped-test : (a b : ℕ) → Grouped p a b → is_grouped p a b ≡ true
  unfolding is_grouped
  grouped-test a b itself = reach_seed (suc (highest p)) _ a
  grouped-test a b (along {b = x} {c = y} g m) = let w = bound_below x y (v.story.bound x y m) in
      reach-closed (suc (highest p)) _ a x y (rw v.top w.0) (rw v.top w.1) (grouped-test a x g) (or_left (tie_made p 3 x y) _ m)
  grouped-test a b (against {b = x} {c = y} g m) = let w = bound_below y x (v.story.bound y x m) in
      reach-closed (suc (highest p)) _ a x y (rw v.top w.1) (rw v.top w.0) (grouped-test a x g) (or_right (tie_made p 3 x y) _ m)

-- after any list of calls
pub rules_grouped : (L : Limits) (s : Window) (n : ℕ) → (step L s (Open n)).answer ≡ 0 → (l : List Call) → all fits l ≡ true → (a b : ℕ)
    → is_grouped (history (step L) s [] (Open n ∷ l)) a b ≡ true ↔ Grouped (history (step L) s [] (Open n ∷ l)) a b
unfolding history
rules_grouped L s n e l f a b = (test_grouped _ a b, grouped-test L _ _ (rules_inv L s n e l f) a b)
