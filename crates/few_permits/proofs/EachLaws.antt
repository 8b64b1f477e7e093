-- A test of each member of a set, the lowest first. Assumes nothing.
use mathlib.Core.Path.{◌≡◌, refl, sym, ◌∙◌}
use mathlib.Core.Bool.{Bool, true, false, not, ◌&&◌, ◌||◌, false≢true}
use Prim.Native.Nat.{ℕ, ◌<◌, ◌-◌}
use lib.Dec.{eqb}
use native.Mathlib.Omega.{arith}
use Rattle.std.specs.Prelude.{Option, Some, None, IfSome}
use Rattle.std.specs.Option.{unwrap_or, is_some}
use mathlib.Core.Logic.{◌≢◌}
use borrow.Author.Tests.{ne_eqb}
use Rattle.rules.specs.Base.{lowest_below, all_below}
use Rattle.rules.specs.Sets.{Set}
use Rattle.rules.proofs.BaseLaws.{and_right, Same, same, other, same?, all_below_intro}
use Rattle.rules.proofs.TurnLaws.{turn_failed}
use Rattle.sets.proofs.WalkLaws.{lowest_of, rest_without, walk_less}
use Rattle.few_permits.specs.Each.{EachOf}

-- `left` are those of x that are still to come; the test passed for the others
pub record Tested (gives : ℕ → Bool → Type 0) (x left : Set) : Type 0 where
  pub within : (k : ℕ) → left k ≡ true → x k ≡ true
  pub passed : (k : ℕ) → k < 256 → left k ≡ false → x k ≡ true → gives k true

pub none_tested : (gives : ℕ → Bool → Type 0) (x : Set) → Tested gives x x
none_tested gives x = record { within = λ k h. h; passed = λ k l f h. absurd (false≢true (sym f ∙ h)) }

module _ (gives : ℕ → Bool → Type 0) (x left : Set) (w : Tested gives x left) where
  -- a is taken out, the lowest
  module _ (a : ℕ) (ha : a < 256) (lowest : a ≡ lowest_below 256 left) where
    pub test_failed : gives a false → EachOf gives x false
    test_failed f = record { passed = λ q. absurd (false≢true q); failed = λ _. (a, ha, w.within a ((lowest_of left a lowest).hit ha), f) }

    module _ (left' : Set) (without : (k : ℕ) → left' k ≡ not (eqb k (lowest_below 256 left)) && left k) where
      out : (k : ℕ) → left' k ≡ not (eqb k a) && left k
      out = rest_without left a (lowest_of left a lowest) left' without

      pub one_tested : gives a true → Tested gives x left'
      one_tested g = record { within = λ k h. w.within k (and_right (not (eqb k a)) (left k) (sym (out k) ∙ h)); passed = λ k l f h. go k l h (same? k a) (sym (out k) ∙ f) }
        where
          go : (k : ℕ) → k < 256 → x k ≡ true → {b : Bool} → Same k a b → not b && left k ≡ false → gives k true
          go k l h (same q) f = rw q g
          go k l h (other n) f = w.passed k l f h

      pub fewer_left : 256 - lowest_below 256 left' < 256 - lowest_below 256 left
      fewer_left = rw (sym lowest) (walk_less left a (lowest_of left a lowest) ha left' without (lowest_below 256 left') refl)

  -- none is left
  pub all_tested : 256 ≡ lowest_below 256 left → EachOf gives x true
  all_tested e = record { passed = λ _ k l h. w.passed k l ((lowest_of left 256 e).before k l) h; failed = λ q. absurd (false≢true (sym q)) }

-- what a test gives is p: whether it passes for each
pub each_passes : (gives : ℕ → Bool → Type 0) (x : Set) (all : Bool) → EachOf gives x all → (p : ℕ → Bool) → ((k : ℕ) (b : Bool) → k < 256 → gives k b → b ≡ p k) → all ≡ all_below 256 (λ k. not (x k) || p k)
each_passes gives x true e p h = sym (all_below_intro 256 _ (λ k l. go k l (x k) refl))
  where
    go : (k : ℕ) → k < 256 → (b : Bool) → x k ≡ b → not b || p k ≡ true
    go k l true q = sym (h k true l (e.passed refl k l q))
    go k l false q = refl
each_passes gives x false e p h =
    let f = e.failed refl in
    turn_failed 256 (λ k. not (x k) || p k) f.0 _ f.1 refl (rw (f.2, sym (h f.0 false f.1 f.3)) refl)

-- nobody is found just where the number of who is found is 0
pub nobody_found : (found : Option ℕ) (n : ℕ) (none : Bool) → unwrap_or found 0 ≡ n → IfSome found (λ c. 0 < c) → is_some found ≡ not none → none ≡ eqb n 0
nobody_found None n true e h q = rw (sym e)
nobody_found None n false e h q = absurd (false≢true q)
nobody_found (Some c) n true e h q = absurd (false≢true (sym q))
nobody_found (Some c) n false e h q = let positive : c ≢ 0 = λ z. omega arith in rw (sym e, ne_eqb c 0 positive)
