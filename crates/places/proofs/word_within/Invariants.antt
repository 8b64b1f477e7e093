-- `places::word_within` meets its contract: the word has the changes below c. Assumes nothing.
use mathlib.Core.Path.{◌≡◌}
use Prim.Native.Nat.{ℕ, ◌+◌, ◌≤◌, ◌<◌, max}
use Rattle.layout.specs.Codec.{unpack}
use Rattle.places.specs.Statuses.{firsts, in_range}
use Rattle.places.proofs.word_within.Given as goal

abbrev pub invariant-loop-c : goal.invariant-loop-c
invariant-loop-c l = (l.c ≤ max l.first l.end) × ((j : ℕ) → j < 64 → unpack l.word j ≡ firsts l.c (in_range l.changes l.statuses.low l.statuses.high) (l.first + j))
