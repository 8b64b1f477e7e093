-- `many_permits::givers_to_anybody` meets its contract: after some of the permits, the givers among them. Assumes nothing.
use mathlib.Core.Path.{◌≡◌}
use Prim.Native.Nat.{ℕ}
use Rattle.sets.specs.Members.{members}
use Rattle.beside.specs.Permits.{any_of}
use Rattle.few_permits.specs.Rows.{permit_row}
use Rattle.many_permits.specs.Named.{permits_anybody}
use Rattle.many_permits.proofs.givers_to_anybody.Given as goal

abbrev pub invariant-loop-permit : goal.invariant-loop-permit
invariant-loop-permit l = (k : ℕ) → members l.s k ≡ any_of l.permit-index (permit_row l.permits) (permits_anybody l.mode k)
