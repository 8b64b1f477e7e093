-- The starred calls in which a largest figure plays a part, for any figure, and at the largest ones. Assumes nothing.
use mathlib.Core.Path.{◌≡◌, refl, ap}
use mathlib.Core.List.{[], ◌∷◌, ◌++◌}
use Prim.Native.Nat.{ℕ, zero, suc, ◌+◌, ◌≤◌}
use native.Mathlib.Omega.{arith}
use lib.Dec.{leb-suc-zero}
use lib.ListN.{replicate}
use borrow.Author.Tests.{le-ltb}
use Rattle.rules.specs.Base.{table}
use Rattle.rules.specs.Window.{Limits, limits, Window, fresh}
use Rattle.rules.specs.Calls.{Open, Initiate, unchanged, done}
use Rattle.rules.specs.Effects.{effect, add_change}
use Rattle.rules.specs.Refusals.{step, settle, checks, first_failed, ◌if◌}
use Rattle.rules.specs.Lists.{answers}
use Rattle.rules.proofs.BaseLaws.{over_false, over_true}

-- as many changes as there is room for, and one more
pub fill : (L : Limits) (m : ℕ) (W : Window) → W.given + m ≡ L.changes
    → answers (step L) W (replicate m (Initiate 0) ++ (Initiate 0 ∷ [])) ≡ table m (suc W.given) (λ k. (0, k)) ++ ((11, 0) ∷ [])
unfolding answers step checks first_failed ◌if◌ settle effect done unchanged add_change table
fill L zero W e = rw (leb-suc-zero W.given, over_true (suc W.given) L.changes (omega arith))
fill L (suc m) W e = rw (leb-suc-zero W.given, over_false (suc W.given) L.changes (omega arith)) (ap (λ l. (0, suc W.given) ∷ l) (fill L m (add_change W 0) (omega arith)))

-- no entries, the largest number of them, and one more
pub open_any : (L : Limits) (W : Window) → 1 ≤ L.entries
    → answers (step L) W (Open 0 ∷ Open L.entries ∷ Open (suc L.entries) ∷ []) ≡ (2, 0) ∷ (0, 0) ∷ (2, 0) ∷ []
unfolding answers step checks first_failed ◌if◌ settle effect done unchanged
open_any L W h = rw (over_false L.entries L.entries (omega arith), over_true (suc L.entries) L.entries (omega arith), le-ltb L.entries 1 h, le-ltb (suc L.entries) 1 (omega arith))

-- AT THE LARGEST FIGURES
-- "open 0: 2. open 256: 0. open 257: 2"
pub opens : (W : Window) → answers (step limits) W (Open 0 ∷ Open 256 ∷ Open 257 ∷ []) ≡ (2, 0) ∷ (0, 0) ∷ (2, 0) ∷ []
unfolding limits
opens W = open_any limits W (omega arith)

-- "The 255th initiate gives 255; the 256th gets 11"
pub initiates : answers (step limits) (fresh 2) (replicate 255 (Initiate 0) ++ (Initiate 0 ∷ [])) ≡ table 255 1 (λ k. (0, k)) ++ ((11, 0) ∷ [])
unfolding limits fresh
initiates = fill limits 255 (fresh 2) refl
