-- `many_permits::add_each_named` meets its contract: after some of the permits, those whom they name beside the writer. Assumes nothing.
use mathlib.Core.Path.{◌≡◌}
use mathlib.Core.Bool.{◌||◌}
use Prim.Native.Nat.{ℕ}
use Rattle.sets.specs.Members.{members}
use Rattle.beside.specs.Permits.{any_of}
use Rattle.few_permits.specs.Rows.{permit_row}
use Rattle.many_permits.specs.Named.{names}
use Rattle.many_permits.proofs.add_each_named.Given as goal

abbrev pub invariant-loop-permit : goal.invariant-loop-permit
invariant-loop-permit l = (k : ℕ) → members l.s k ≡ members l.initial.s k || any_of l.permit-index (permit_row l.permits) (names (members l.holders.readers) (members l.holders.writers) l.writer k)
