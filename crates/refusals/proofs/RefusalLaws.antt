-- The first refusal of a list of checks, from the tests of the code. Assumes nothing.
use mathlib.Core.Path.{◌≡◌, refl, sym}
use mathlib.Core.Logic.{◌≢◌}
use mathlib.Core.Bool.{Bool, true, false, not, cond, ◌||◌}
use mathlib.Core.List.{List, [], ◌∷◌}
use Prim.Native.Nat.{ℕ, zero, suc, ◌≤◌, ◌<◌}
use native.Mathlib.Omega.{arith}
use lib.Dec.{ltb, eqb}
use lib.ListN.{take, drop}
use borrow.Author.Tests.{lt-ltb, le-ltb}
use Rattle.rules.specs.Base.{exceeds, all}
use Rattle.rules.specs.Window.{Window, no_change}
use Rattle.rules.specs.Refusals.{Check, ◌if◌, checks, first_failed}
use Rattle.rules.proofs.BaseLaws.{over_false, over_true}
use Rattle.rules.proofs.SoundStep.{Passed, passed}
use Rattle.replies.specs.declared.Refusal.{Refusal}
use Rattle.replies.specs.Refused.{code}
use Rattle.replies.proofs.RefusedLaws.{code_some}
use Rattle.refusals.specs.Shared.{ChangeRefusal}

-- checks made in order give a number: t is the code's test
pub data Checked : List Check → ℕ → Type 0 where
  all-passed : Checked [] 0
  fails : {k : Check} {l : List Check} {t : Bool} → t ≡ k.fails → t ≡ true → Checked (k ∷ l) k.code
  passes : {k : Check} {l : List Check} {r : ℕ} {t : Bool} → t ≡ k.fails → t ≡ false → Checked l r → Checked (k ∷ l) r

-- it is that of the first refusal
pub first : {l : List Check} {r : ℕ} → Checked l r → r ≡ first_failed l
unfolding first_failed
first all-passed = refl
first (fails e h) = rw (sym e, h)
first (passes e h q) = rw (sym e, h) (first q)

-- THE FIRST n CHECKS OF A LIST
-- one of them fails
stops : (n : ℕ) (l : List Check) (r : ℕ) → r ≡ first_failed (take n l) → r ≢ 0 → r ≡ first_failed l
unfolding first_failed
stops zero l r e h = absurd (h e)
stops (suc n) [] r e h = e
stops (suc n) (k ∷ l) r e h = go k.fails e (λ q. stops n l r q h)
  where
    go : (b : Bool) → r ≡ cond b k.code (first_failed (take n l)) → (r ≡ first_failed (take n l) → r ≡ first_failed l) → r ≡ cond b k.code (first_failed l)
    go true q f = q
    go false q f = f q

pub stopped : (n : ℕ) (l : List Check) (e : Refusal) → code e ≡ first_failed (take n l) → code e ≡ first_failed l
stopped n l e q = stops n l (code e) q (code_some e)

-- none does, and the others decide
rest_decides : (n : ℕ) (l : List Check) (s : ℕ) → Passed (take n l) → s ≡ first_failed (drop n l) → s ≡ first_failed l
unfolding first_failed
rest_decides zero l s p q = q
rest_decides (suc n) [] s p q = q
rest_decides (suc n) (k ∷ l) s p q = rw p.0 (rest_decides n l s p.1 q)

pub went_on : (n : ℕ) (l : List Check) {s : ℕ} → all (λ k. ltb 0 k.code) (take n l) ≡ true → 0 ≡ first_failed (take n l) → Checked (drop n l) s → s ≡ first_failed l
went_on n l c e q = rest_decides n l _ (passed (take n l) c (sym e)) (first q)

-- the four calls that only ask that there is the change have the same checks
pub change_refusal : {W : Window} {c r : ℕ} → Checked (3 if no_change W c ∷ []) r → ChangeRefusal W c r
unfolding checks
change_refusal q = record { commit = first q; abort = first q; status = first q; parent = first q }

-- tests of a figure x that is read
module _ {x y : ℕ} (e : x ≡ y) (n : ℕ) where
  pub reads_below : x < n → ltb y n ≡ true
  reads_below h = lt-ltb y n (omega arith)

  pub reads_not_below : n ≤ x → ltb y n ≡ false
  reads_not_below h = le-ltb y n (omega arith)

  -- one more exceeds a largest figure, or does not
  pub full : n ≤ x → exceeds (suc y) n ≡ true
  full h = over_true (suc y) n (omega arith)

  pub room : x < n → exceeds (suc y) n ≡ false
  room h = over_false (suc y) n (omega arith)

-- a test of a change x that may be 0
pub unless_none : (x : ℕ) {t b : Bool} → t ≡ b → not (eqb x 0 || t) ≡ not (eqb x 0 || b)
unless_none x e = rw e
