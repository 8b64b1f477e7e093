-- `row_sections::standing` meets its contract: the places passed fit, and the next key has its bound. Assumes nothing.
use mathlib.Core.Path.{◌≡◌}
use mathlib.Core.Bool.{Bool, ◌&&◌}
use Prim.Native.Nat.{ℕ, ◌<◌}
use Rattle.row_sections.specs.Fits.{is_in_order}
use Rattle.row_sections.proofs.RiseLaws.{Risen}
use Rattle.row_sections.proofs.standing.Given as goal

abbrev pub invariant-loop-j : goal.invariant-loop-j
invariant-loop-j g l = (own : ℕ → Bool) → ((j : ℕ) (r : Bool) → j < l.count → goal.F-post g l.fits j r → r ≡ own j) → Risen l.rows (λ j. own j && is_in_order l.rows j) l.next l.j
