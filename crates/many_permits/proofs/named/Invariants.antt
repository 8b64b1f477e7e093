-- `many_permits::named` meets its contract: after some of the blocks, those whom their permits name beside the writer. Assumes nothing.
use mathlib.Core.Path.{◌≡◌}
use Prim.Native.Nat.{ℕ, ◌*◌}
use Rattle.sets.specs.Members.{members}
use Rattle.beside.specs.Permits.{any_of}
use Rattle.few_permits.specs.Rows.{permit_row}
use Rattle.many_permits.specs.Named.{names}
use Rattle.many_permits.proofs.named.Given as goal

abbrev pub invariant-loop-block : goal.invariant-loop-block
invariant-loop-block l = (k : ℕ) → members l.s k ≡ any_of (l.block-index * 16) (permit_row l.permits) (names (members l.holders.readers) (members l.holders.writers) l.writer k)
