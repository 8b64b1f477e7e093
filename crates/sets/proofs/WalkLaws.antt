-- A walk over the members of a set of changes, the lowest first. Assumes nothing.
use mathlib.Core.Path.{◌≡◌, refl, sym, ◌∙◌}
use mathlib.Core.Bool.{Bool, true, false, not, ◌&&◌, false≢true}
use Prim.Native.Nat.{ℕ, ◌-◌, ◌≤◌, ◌<◌}
use native.Mathlib.Decide.{dec_lt}
use native.Mathlib.Omega.{arith}
use lib.Dec.{eqb}
use Rattle.rules.specs.Base.{lowest_below}
use Rattle.rules.specs.Sets.{Set}
use Rattle.rules.proofs.BaseLaws.{Same, same, other, same?}
use Rattle.rules.proofs.BoundLaws.{lowest_is, lowest_most, lowest_found, lowest_below_lem}

-- a number is the lowest member of a set of changes, or 256
pub record Lowest (s : Set) (a : ℕ) : Type 0 where
  pub within : a ≤ 256
  pub hit : a < 256 → s a ≡ true
  pub before : (k : ℕ) → k < a → s k ≡ false

pub lowest_of : (s : Set) (a : ℕ) → a ≡ lowest_below 256 s → Lowest s a
lowest_of s a e = rw e (record { within = lowest_most s 256; hit = lowest_found s 256; before = lowest_below_lem s 256 })

-- without its lowest member is without a
pub rest_without : (left : Set) (a : ℕ) → Lowest left a → (left' : Set) → ((k : ℕ) → left' k ≡ not (eqb k (lowest_below 256 left)) && left k) → (k : ℕ) → left' k ≡ not (eqb k a) && left k
rest_without left a low left' e k = e k ∙ rw (lowest_is left 256 a low.within low.hit low.before)

-- the walk goes on without a: `left` are those still to come
module _ (left : Set) (a : ℕ) (low : Lowest left a) (left' : Set) (without : (k : ℕ) → left' k ≡ not (eqb k a) && left k) where
  -- nobody up to a is to come
  gone : (k : ℕ) → k ≤ a → left' k ≡ false
  gone k h = without k ∙ go (same? k a)
    where
      go : {b : Bool} → Same k a b → not b && left k ≡ false
      go (same e) = refl
      go (other n) = low.before k (omega arith)

  -- the next one is higher
  pub lowest_rises : a < 256 → (a' : ℕ) → Lowest left' a' → a < a'
  lowest_rises ha a' next = go (dec_lt a a')
    where
      go : Dec (a < a') → a < a'
      go (yes h) = h
      go (no h) = absurd (false≢true (sym (gone a' (omega arith)) ∙ next.hit (omega arith)))

-- what is left of 256 falls from a turn to the next
pub walk_less : (left : Set) (a : ℕ) → Lowest left a → a < 256 → (left' : Set) → ((k : ℕ) → left' k ≡ not (eqb k (lowest_below 256 left)) && left k) → (a' : ℕ) → a' ≡ lowest_below 256 left' → 256 - a' < 256 - a
walk_less left a low h left' e a' l = omega (arith, lowest_rises left a low left' (rest_without left a low left' e) h a' (lowest_of left' a' l))
