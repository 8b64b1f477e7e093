-- `clashes::all_permitted` meets its contract: the entries passed have permits for their clashing pairs, and the permits before `next` are of those entries. Assumes nothing.
use Rattle.std.proofs.Common.{◌≡◌, true, ℕ, ◌≤◌, ◌<◌, length}
use Rattle.rules.specs.Base.{all_below}
use Rattle.rules.specs.Window.{Window}
use Rattle.rules.proofs.PairLaws.{entry_permitted}
use Rattle.few_permits.specs.Rows.{permit_row}
use Rattle.clashes.specs.LocksAndPermits.{LocksAndPermits}
use Rattle.clashes.proofs.all_permitted.Given as goal

abbrev pub invariant-loop-entry : goal.invariant-loop-entry
invariant-loop-entry l = record {
  within : l.next ≤ length l.rows;
  lower : (j : ℕ) → j < l.next → (permit_row l.rows j).entry < l.entry;
  permitted : (W : Window) → LocksAndPermits l.locks l.permits l.entries l.count W → all_below l.entry (entry_permitted W) ≡ true;
}
