-- The first checks of a call that names two changes, and the others after them. Assumes nothing.
use mathlib.Core.Path.{◌≡◌, refl, sym, ◌∙◌}
use mathlib.Core.Bool.{Bool, true, false, not, ◌&&◌}
use Prim.Native.Nat.{ℕ, ◌≤◌, ◌<◌}
use lib.Dec.{eqb}
use lib.ListN.{take, drop}
use borrow.Author.Tests.{ltb-false, leb-false, not-true, not-false}
use Rattle.rules.specs.Base.{outside, all}
use Rattle.rules.specs.Window.{limits, Window, no_entry}
use Rattle.rules.specs.Calls.{Permit, Delegate, Depend}
use Rattle.rules.specs.Effects.{every}
use Rattle.rules.specs.Refusals.{◌if◌, checks, first_failed}
use Rattle.rules.proofs.SoundStep.{Passed, passed}
use Rattle.rules.proofs.SoundParts.{numbered}
use Rattle.refusals.proofs.RefusalLaws.{Checked, went_on}

-- a test of an entry x that may be every entry
pub unless_every : (x : ℕ) {t b : Bool} → t ≡ b → not (eqb x 65535) && t ≡ not (eqb x every) && b
unfolding every
unless_every x e = rw e

-- a test of two changes
pub not_both : {t b u d : Bool} → t ≡ b → u ≡ d → not (t && u) ≡ not (b && d)
not_both e q = rw (e, q)

-- whether there is room, as it is asked
module _ {t b : Bool} (e : t ≡ not b) where
  pub no_room : not t ≡ true → b ≡ true
  no_room h = not-false b (sym e ∙ not-true t h)

  pub has_room : not t ≡ false → b ≡ false
  has_room h = not-true b (sym e ∙ not-false t h)

-- PERMIT, DELEGATE AND DEPEND
-- no number of a permit is refused
module _ (W : Window) (g t e o : ℕ) (q : 0 ≡ first_failed (take 5 (checks limits W (Permit g t e o)))) where
  permit_passed : Passed (take 5 (checks limits W (Permit g t e o)))
  unfolding checks all ◌if◌
  permit_passed = passed (take 5 (checks limits W (Permit g t e o))) refl (sym q)

  pub permit_numbers : (g ≤ W.given) × (t ≤ W.given) × (e < W.entries)
  unfolding checks ◌if◌ no_entry
  permit_numbers = let p = permit_passed in (numbered W g p.0, ltb-false W.given t p.1.0, leb-false W.entries e p.1.1.0)

  pub permit_rest : {s : ℕ} → Checked (drop 5 (checks limits W (Permit g t e o))) s → s ≡ first_failed (checks limits W (Permit g t e o))
  unfolding checks all ◌if◌
  permit_rest = went_on 5 (checks limits W (Permit g t e o)) refl q

-- no check of a delegate before the last fails
pub delegate_passed : (W : Window) (f t e : ℕ) → first_failed (take 5 (checks limits W (Delegate f t e))) ≡ 0 → Passed (take 5 (checks limits W (Delegate f t e)))
unfolding checks all ◌if◌
delegate_passed W f t e z = passed (take 5 (checks limits W (Delegate f t e))) refl z

-- no number of a tie is refused
module _ (W : Window) (k l f : ℕ) (q : 0 ≡ first_failed (take 4 (checks limits W (Depend k l f)))) where
  depend_passed : Passed (take 4 (checks limits W (Depend k l f)))
  unfolding checks all ◌if◌
  depend_passed = passed (take 4 (checks limits W (Depend k l f))) refl (sym q)

  pub depend_numbers : (outside 1 3 k ≡ false) × (l ≤ W.given) × (f ≤ W.given)
  unfolding checks ◌if◌
  depend_numbers = let p = depend_passed in (p.1.1.0, numbered W l p.0, numbered W f p.1.0)

  pub depend_rest : {s : ℕ} → Checked (drop 4 (checks limits W (Depend k l f))) s → s ≡ first_failed (checks limits W (Depend k l f))
  unfolding checks all ◌if◌
  depend_rest = went_on 4 (checks limits W (Depend k l f)) refl q
