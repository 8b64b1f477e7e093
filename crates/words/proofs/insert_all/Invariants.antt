-- `words::insert_all` meets its contract: the words below i are joined, and the others as they were. Assumes nothing.
use mathlib.Core.Path.{◌≡◌}
use Prim.Native.Nat.{ℕ, ◌<◌, ◌≤◌}
use lib.Bits.{bit_or}
use lib.ListN.{get_or, length}
use Rattle.words.proofs.insert_all.Given as goal

abbrev pub invariant-loop-i : goal.invariant-loop-i
invariant-loop-i l =
    (length l.words ≡ 4) × ((j : ℕ) → j < l.i → get_or l.words j 0 ≡ bit_or (get_or l.initial.words j 0) (get_or l.others j 0))
    × ((j : ℕ) → l.i ≤ j → get_or l.words j 0 ≡ get_or l.initial.words j 0)
