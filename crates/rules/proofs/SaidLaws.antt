-- Lists of checks and the refusals that they say, in words. Assumes nothing.
use mathlib.Core.Path.{◌≡◌, refl, sym, ◌∙◌, ap}
use mathlib.Core.Logic.{◌⊎◌, inl, inr, ◌↔◌, ◌≢◌}
use mathlib.Core.Bool.{Bool, true, false, not, cond, ◌&&◌, ◌||◌, false≢true}
use mathlib.Core.List.{List, [], ◌∷◌}
use Prim.Native.Nat.{ℕ, zero, suc, ◌<◌}
use native.Mathlib.Omega.{arith}
use lib.Dec.{ltb, eqb}
use borrow.Author.Tests.{not-true, eqb-true, eqb-false, ltb-true}
use Rattle.rules.specs.Base.{all}
use Rattle.rules.specs.Refusals.{Check, first_failed, ◌if◌}
use Rattle.rules.proofs.BaseLaws.{and_left, and_right, and_four}
use Rattle.rules.proofs.TellLaws.{Tells}

-- an answer that is no refusal's number
abbrev pub NoRefusal : ℕ → Type 0
NoRefusal a = (a ≡ 0) ⊎ ((a ≡ 20) ⊎ (a ≡ 21))

-- an answer and refusals in checking order, each a number and what it says: the answer is that number exactly when what it says holds;
-- where that does not hold, those after it decide
unfoldable pub Turned : ℕ → List (ℕ × Type 0) → Type 0
Turned a [] = NoRefusal a
Turned a (r ∷ l) = (a ≡ r.0 ↔ r.1) × ((r.1 → ⊥) → Turned a l)

-- neighbours of one number as one check
unfoldable pub merge : Check → List Check → List Check
merge k [] = k ∷ []
merge k (j ∷ l) = cond (eqb k.code j.code) (merge (k.code if (k.fails || j.fails)) l) (k ∷ merge j l)

unfoldable pub merged : List Check → List Check
merged [] = []
merged (k ∷ l) = merge k l

merge_first : (k : Check) (l : List Check) → first_failed (merge k l) ≡ first_failed (k ∷ l)
unfolding merge first_failed ◌if◌
merge_first k [] = refl
merge_first k (j ∷ l) = go (eqb k.code j.code) refl (merge_first (k.code if (k.fails || j.fails)) l) (merge_first j l)
  where
    both : (a b : Bool) (m n x : ℕ) → m ≡ n → cond (a || b) m x ≡ cond a m (cond b n x)
    both true b m n x e = refl
    both false b m n x e = rw e

    go : (b : Bool) → eqb k.code j.code ≡ b → first_failed (merge (k.code if (k.fails || j.fails)) l) ≡ cond (k.fails || j.fails) k.code (first_failed l) → first_failed (merge j l) ≡ cond j.fails j.code (first_failed l)
        → first_failed (cond b (merge (k.code if (k.fails || j.fails)) l) (k ∷ merge j l)) ≡ cond k.fails k.code (cond j.fails j.code (first_failed l))
    go true e p q = p ∙ both k.fails j.fails k.code j.code (first_failed l) (eqb-true k.code j.code e)
    go false e p q = ap (λ x. cond k.fails k.code x) q

pub merged_first : (l : List Check) → first_failed (merged l) ≡ first_failed l
unfolding merged
merged_first [] = refl
merged_first (k ∷ l) = merge_first k l

-- each number stands once, and none is an answer of a call that is not refused
unfoldable pub proper : List Check → Bool
proper [] = true
proper (k ∷ l) = ltb 0 k.code && ltb k.code 20 && all (λ j. not (eqb j.code k.code)) l && proper l

-- checks say these refusals, number by number; each where those before it do not apply
pub Said : List Check → List (ℕ × Type 0) → Type 0
Said [] [] = Unit {0}
Said [] (r ∷ w) = ⊥
Said (k ∷ l) [] = ⊥
Said (k ∷ l) (r ∷ w) = (k.code ≡ r.0) × (Tells k.fails r.1) × (k.fails ≡ false → Said l w)

-- the answer of a call whose first refusal is f, 0 if there is none
unfoldable pub AnswerOf : ℕ → ℕ → Type 0
AnswerOf zero a = NoRefusal a
AnswerOf (suc f) a = a ≡ suc f

-- a number that no check has is not the first
first_other : (l : List Check) (n : ℕ) → all (λ j. not (eqb j.code n)) l ≡ true → 0 < n → first_failed l ≢ n
unfolding all first_failed
first_other [] n h p e = omega arith
first_other (k ∷ l) n h p e = go k.fails (first_other l n (and_right (not (eqb k.code n)) _ h) p) e
  where
    go : (b : Bool) → first_failed l ≢ n → cond b k.code (first_failed l) ≡ n → ⊥
    go true f q = eqb-false k.code n (not-true _ (and_left (not (eqb k.code n)) _ h)) q
    go false f q = f q

answered_other : (f a n : ℕ) → AnswerOf f a → f ≢ n → 0 < n → n < 20 → a ≢ n
unfolding AnswerOf
answered_other zero a n (inl e) h p q = omega (arith, e)
answered_other zero a n (inr (inl e)) h p q = omega (arith, e)
answered_other zero a n (inr (inr e)) h p q = omega (arith, e)
answered_other (suc f) a n e h p q = λ x. h (sym e ∙ x)

answered_is : (f a : ℕ) → 0 < f → AnswerOf f a → a ≡ f
unfolding AnswerOf
answered_is zero a h e = absurd (omega arith)
answered_is (suc f) a h e = e

-- the first check that fails decides
pub turned : (a : ℕ) (l : List Check) (w : List (ℕ × Type 0)) → proper l ≡ true → Said l w → AnswerOf (first_failed l) a → Turned a w
unfolding Turned Said proper first_failed AnswerOf
turned a [] [] p s h = h
turned a [] (r ∷ w) p s h = absurd s
turned a (k ∷ l) [] p s h = absurd s
turned a (k ∷ l) (r ∷ w) p s h = go k.fails refl h (λ e. turned a l w q.3 (s.2 e))
  where
    q : (ltb 0 k.code ≡ true) × (ltb k.code 20 ≡ true) × (all (λ j. not (eqb j.code k.code)) l ≡ true) × (proper l ≡ true)
    q = and_four (ltb 0 k.code) (ltb k.code 20) (all (λ j. not (eqb j.code k.code)) l) (proper l) p

    above : 0 < k.code
    above = ltb-true 0 k.code q.0

    go : (b : Bool) → k.fails ≡ b → AnswerOf (cond b k.code (first_failed l)) a → (k.fails ≡ false → AnswerOf (first_failed l) a → Turned a w)
        → (a ≡ r.0 ↔ r.1) × ((r.1 → ⊥) → Turned a w)
    go true e h ih = ((λ x. s.1.0 e, λ x. answered_is k.code a above h ∙ s.0), λ n. absurd (n (s.1.0 e)))
    go false e h ih = (
      (λ x. absurd (answered_other (first_failed l) a k.code h (first_other l k.code q.2 above) above (ltb-true k.code 20 q.1) (x ∙ sym s.0)), λ x. absurd (false≢true (sym e ∙ s.1.1 x))),
      λ n. ih e h,
    )

-- one check more, asked where those before it do not apply
pub said_next : (n : ℕ) (f : Bool) (P : Type 0) (l : List Check) (w : List (ℕ × Type 0)) → Tells f P → (f ≡ false → Said l w) → Said ((n if f) ∷ l) ((n, P) ∷ w)
unfolding Said ◌if◌
said_next n f P l w t s = (refl, t, s)

pub said_none : Said [] []
unfolding Said
said_none = tt
