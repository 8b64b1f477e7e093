-- `passes::note_ties` meets its contract: after some ties those are noted in the rows. Assumes nothing.
use mathlib.Core.Path.{◌≡◌}
use mathlib.Core.Bool.{◌||◌}
use Prim.Native.Nat.{ℕ}
use lib.ListN.{length}
use Rattle.passes.specs.TieRows.{gone_in, row_has}
use Rattle.passes.proofs.note_ties.Given as goal

abbrev pub invariant-loop-next : goal.invariant-loop-next
invariant-loop-next l = (length l.rows ≡ 1024) × ((x y : ℕ) → row_has l.rows x y ≡ row_has l.initial.rows x y || gone_in l.low l.ties l.next x y)
