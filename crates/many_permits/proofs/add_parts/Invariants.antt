-- `many_permits::add_parts` meets its contract: after some of the parts, those whom their permits name beside the writer. Assumes nothing.
use mathlib.Core.Path.{◌≡◌}
use mathlib.Core.Bool.{◌||◌}
use Prim.Native.Nat.{ℕ, ◌*◌}
use Rattle.sets.specs.Members.{members}
use Rattle.beside.specs.Permits.{any_of}
use Rattle.few_permits.specs.Rows.{permit_row}
use Rattle.many_permits.specs.Named.{names}
use Rattle.many_permits.proofs.add_parts.Given as goal

abbrev pub invariant-loop-part : goal.invariant-loop-part
invariant-loop-part l = (k : ℕ) → members l.s k ≡ members l.initial.s k || any_of (l.part-index * 4) (permit_row l.block) (names (members l.holders.readers) (members l.holders.writers) l.writer k)
