-- The writers of an entry, one after the other, the lowest first. Assumes nothing.
use mathlib.Core.Path.{◌≡◌, refl, sym, ◌∙◌, ap}
use mathlib.Core.Logic.{◌≢◌}
use mathlib.Core.Bool.{Bool, true, false, not, ◌&&◌, ◌||◌}
use Prim.Native.Nat.{ℕ, ◌≤◌, ◌<◌}
use native.Mathlib.Decide.{dec_lt}
use native.Mathlib.Omega.{arith}
use lib.Dec.{eqb}
use borrow.Author.Tests.{ne_eqb, eq-eqb}
use Rattle.rules.specs.Base.{all_below}
use Rattle.rules.specs.Sets.{Set}
use Rattle.rules.proofs.BaseLaws.{or_left, or_right, Same, same, other, same?, all_below_intro, all_below_at}
use Rattle.rules.proofs.TurnLaws.{turn_failed, turns_done}
use Rattle.sets.proofs.WalkLaws.{Lowest, lowest_rises}

-- a walk over the writers x: q is the lowest holder in the way of each, 0 where there is none; `left` are those not yet looked at, a the lowest of them
pub record Walked (x : Set) (q : ℕ → ℕ) (left : Set) (a : ℕ) : Type 0 where
  pub lowest : Lowest left a
  -- from a on none has been looked at
  pub later : (k : ℕ) → a ≤ k → left k ≡ x k
  -- nobody is in the way of those below a
  pub passed : all_below a (λ k. not (x k) || eqb (q k) 0) ≡ true

module _ (x : Set) (q : ℕ → ℕ) where
  pub walk_start : (a : ℕ) → Lowest x a → Walked x q x a
  walk_start a l = record { lowest = l; later = λ k h. refl; passed = all_below_intro a _ (λ k h. or_left (not (x k)) (eqb (q k) 0) (ap not (l.before k h))) }

  module _ (left : Set) (a : ℕ) (w : Walked x q left a) (ha : a < 256) where
    -- somebody is in the way of the writer at hand
    pub walk_failed : (r : ℕ) → r ≡ q a → r ≢ 0 → false ≡ all_below 256 (λ k. not (x k) || eqb (q k) 0)
    walk_failed r e f =
        let fails : not (x a) || eqb (q a) 0 ≡ false = rw (sym (w.later a (omega arith)) ∙ w.lowest.hit ha) (ne_eqb (q a) 0 (λ z. f (e ∙ z))) in
        turn_failed 256 (λ k. not (x k) || eqb (q k) 0) a _ ha refl (ap not fails)

    -- nobody is, and the walk goes on without it
    module _ (left' : Set) (a' : ℕ) (without : (k : ℕ) → left' k ≡ not (eqb k a) && left k) (next : Lowest left' a') where
      kept : (k : ℕ) → a < k → left' k ≡ x k
      kept k h = without k ∙ rw (ne_eqb k a (λ e. omega arith)) (w.later k (omega arith))

      pub walk_next : (r : ℕ) → r ≡ q a → r ≡ 0 → Walked x q left' a'
      walk_next r e f = record { lowest = next; later = λ k h. kept k (omega (arith, lowest_rises left a w.lowest left' without ha a' next)); passed = all_below_intro a' _ (λ k h. go k h (dec_lt k a) (same? k a)) }
        where
          go : (k : ℕ) → k < a' → Dec (k < a) → {b : Bool} → Same k a b → not (x k) || eqb (q k) 0 ≡ true
          go k h (yes l) s = all_below_at a _ w.passed k l
          go k h (no l) (same p) = or_right (not (x k)) (eqb (q k) 0) (rw p (eq-eqb (q a) 0 (sym e ∙ f)))
          go k h (no l) (other n) = or_left (not (x k)) (eqb (q k) 0) (ap not (sym (kept k (omega arith)) ∙ next.before k h))

  -- no writer is left
  pub walk_done : (left : Set) (a : ℕ) → Walked x q left a → 256 ≤ a → true ≡ all_below 256 (λ k. not (x k) || eqb (q k) 0)
  walk_done left a w h = turns_done 256 (λ k. not (x k) || eqb (q k) 0) a w.passed (omega (arith, w.lowest.within))
