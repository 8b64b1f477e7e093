-- A walk that asks the same test of 0, 1, 2, … and stops where it fails; what one test decides that failed or passed. Assumes nothing.
use mathlib.Core.Path.{◌≡◌, refl, sym, ◌∙◌, ap}
use mathlib.Core.Logic.{◌↔◌}
use mathlib.Core.Bool.{Bool, true, false, not, ◌||◌, false≢true}
use Prim.Native.Nat.{ℕ, ◌+◌, ◌<◌}
use native.Mathlib.Numerals.{add-one}
use borrow.Author.Tests.{not-true, not-false}
use Rattle.rules.specs.Base.{all_below, any_below}
use Rattle.rules.proofs.BaseLaws.{and_both, no_true, all_below_at}

-- where a test failed, what it decides is not so; where it did not, it is
pub fails {ℓ} : {A : Type ℓ} {r : Bool} → r ≡ true ↔ A → not r ≡ true → A → ⊥
fails {r} d n a = false≢true (sym (not-true r n) ∙ d.1 a)

pub passes {ℓ} : {A : Type ℓ} {r : Bool} → r ≡ true ↔ A → not r ≡ false → A
passes {r} d n = d.0 (not-false r n)

-- where it decides another test
pub failed : {r t : Bool} → r ≡ t → not r ≡ true → t ≡ true → ⊥
failed e = fails (λ q. sym e ∙ q, λ q. e ∙ q)

pub held : {r t : Bool} → r ≡ t → not r ≡ false → t ≡ true
held e = passes (λ q. sym e ∙ q, λ q. e ∙ q)

-- none asked yet, one that fails, one that passes, all asked; r is what the code found of the test
pub none_yet : (p : ℕ → Bool) → all_below 0 p ≡ true
unfolding all_below
none_yet p = refl

pub turn_failed : (n : ℕ) (p : ℕ → Bool) (i : ℕ) (r : Bool) → i < n → r ≡ p i → not r ≡ true → false ≡ all_below n p
turn_failed n p i r h e t = sym (no_true (all_below n p) (λ a. failed e t (all_below_at n p a i h)))

pub turn_passed : (i : ℕ) (p : ℕ → Bool) (r : Bool) → all_below i p ≡ true → r ≡ p i → not r ≡ false → all_below (i + 1) p ≡ true
unfolding all_below
turn_passed i p r a e t = rw add-one (and_both (all_below i p) (p i) a (held e t))

pub turns_done : (n : ℕ) (p : ℕ → Bool) (i : ℕ) → all_below i p ≡ true → i ≡ n → true ≡ all_below n p
turns_done n p i a e = sym a ∙ ap (λ k. all_below k p) e

-- of a search: what was found before, or the next
pub found-next : (p : ℕ → Bool) (j : ℕ) (s s' : Bool) → s ≡ any_below j p → s' ≡ s || p j → s' ≡ any_below (j + 1) p
unfolding any_below
found-next p j s s' h e = rw (add-one, ← h) e

-- refused, where what is asked cannot be
pub refused {ℓ} : {A : Type ℓ} → (A → ⊥) → false ≡ true ↔ A
refused f = (λ e. absurd (false≢true e), λ a. absurd (f a))
