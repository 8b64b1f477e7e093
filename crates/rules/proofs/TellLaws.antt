-- Tests and what they say: a test is true exactly when a statement holds. Assumes nothing.
use mathlib.Core.Path.{◌≡◌, refl}
use mathlib.Core.Logic.{◌⊎◌, inl, inr, ⊎_elim, ◌↔◌}
use mathlib.Core.Bool.{Bool, true, false, not, ◌&&◌, ◌||◌, false≢true}
use Prim.Native.Nat.{ℕ, ◌<◌, ◌≤◌}
use lib.Dec.{leb, ltb, eqb}
use borrow.Author.Tests.{eqb-true, eq-eqb, ltb-true, lt-ltb, leb-true, le-leb}
use Rattle.rules.specs.Base.{exceeds, outside}
use Rattle.rules.proofs.BaseLaws.{or_left, or_right, or_cases, and_both, and_left, and_right, exceeds_ltb}

abbrev pub Tells : Bool → Type 0 → Type 0
Tells b P = b ≡ true ↔ P

pub tells_equal : (a b : ℕ) → Tells (eqb a b) (a ≡ b)
tells_equal a b = (eqb-true a b, eq-eqb a b)

pub tells_less : (a b : ℕ) → Tells (ltb a b) (a < b)
tells_less a b = (ltb-true a b, lt-ltb a b)

pub tells_most : (a b : ℕ) → Tells (leb a b) (a ≤ b)
tells_most a b = (leb-true a b, le-leb a b)

pub tells_above : (m n : ℕ) → Tells (exceeds m n) (n < m)
tells_above m n = rw (exceeds_ltb m n) (tells_less n m)

pub tells_not : (b : Bool) (P : Type 0) → Tells b P → Tells (not b) (P → ⊥)
tells_not true P t = (λ e. absurd (false≢true e), λ n. absurd (n (t.0 refl)))
tells_not false P t = (λ e p. false≢true (t.1 p), λ n. refl)

pub tells_or : (a b : Bool) (P Q : Type 0) → Tells a P → Tells b Q → Tells (a || b) (P ⊎ Q)
tells_or a b P Q t u = (λ e. ⊎_elim (λ x. inl (t.0 x)) (λ x. inr (u.0 x)) (or_cases a b e), ⊎_elim (λ p. or_left a b (t.1 p)) (λ q. or_right a b (u.1 q)))

pub tells_and : (a b : Bool) (P Q : Type 0) → Tells a P → Tells b Q → Tells (a && b) (P × Q)
tells_and a b P Q t u = (λ e. (t.0 (and_left a b e), u.0 (and_right a b e)), λ p. and_both a b (t.1 p.0) (u.1 p.1))

pub tells_nor : (a b : Bool) (P Q : Type 0) → Tells a P → Tells b Q → Tells (not (a || b)) ((P → ⊥) × (Q → ⊥))
tells_nor true b P Q t u = (λ e. absurd (false≢true e), λ n. absurd (n.0 (t.0 refl)))
tells_nor false b P Q t u = (λ e. (λ p. false≢true (t.1 p), (tells_not b Q u).0 e), λ n. (tells_not b Q u).1 n.1)

-- not from low to high
unfoldable pub Outside : ℕ → ℕ → ℕ → Type 0
Outside low high x = (x < low) ⊎ (high < x)

pub tells_outside : (low high x : ℕ) → Tells (outside low high x) (Outside low high x)
unfolding outside Outside
tells_outside low high x = tells_or (ltb x low) (ltb high x) _ _ (tells_less x low) (tells_less high x)
