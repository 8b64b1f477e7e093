-- `few_permits::note_all` meets its contract: after some of the permits, those whom one of them lets stand beside the writer are noted. Assumes nothing.
use mathlib.Core.Path.{◌≡◌}
use mathlib.Core.Logic.{◌≢◌}
use Prim.Native.Nat.{ℕ}
use Rattle.sets.specs.Members.{members}
use Rattle.beside.specs.Permits.{any_of}
use Rattle.beside.specs.Beside.{beside}
use Rattle.few_permits.specs.Rows.{permit_row}
use Rattle.few_permits.proofs.note_all.Given as goal

abbrev pub invariant-loop-permit : goal.invariant-loop-permit
invariant-loop-permit l = (k : ℕ) → k ≢ l.writer → members l.noted k ≡ any_of l.permit-index (permit_row l.permits) (beside (members l.holders.readers) (members l.holders.writers) l.writer k)
