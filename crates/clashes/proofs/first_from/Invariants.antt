-- `clashes::first_from` meets its contract: the permits passed over are of lower entries. Assumes nothing.
use Rattle.std.proofs.Common.{◌≡◌, false, ℕ, ◌≤◌, ◌<◌}
use Rattle.few_permits.specs.Rows.{permit_row}
use Rattle.clashes.specs.Permits.{from_entry}
use Rattle.clashes.proofs.first_from.Given as goal

abbrev pub invariant-loop-place : goal.invariant-loop-place
invariant-loop-place l = (j : ℕ) → l.start ≤ j → j < l.place → from_entry l.entry (permit_row l.permits j) ≡ false
