-- `cycles::own_labels` meets its contract: the labels before k are in place. Assumes nothing.
use Rattle.std.proofs.Common.{◌≡◌, ℕ, ◌<◌, length, get_or}
use Rattle.cycles.proofs.own_labels.Given as goal

abbrev pub invariant-loop-k : goal.invariant-loop-k
invariant-loop-k l = (length l.labels ≡ 256) × ((i : ℕ) → i < l.k → get_or l.labels i 0 ≡ i)
