-- `permits::givers` meets its contract: the members and the givers to come are the givers. Assumes nothing.
use mathlib.Core.Path.{◌≡◌}
use mathlib.Core.Bool.{true, ◌||◌}
use Prim.Native.Nat.{ℕ, ◌+◌}
use Rattle.rules.specs.Base.{any, rising}
use Rattle.sets.specs.Members.{members}
use Rattle.rows.specs.Rows.{row_key, rows}
use Rattle.permits.proofs.GiverLaws.{grants, ahead, FromEntry}
use Rattle.permits.proofs.givers.Given as goal

abbrev pub invariant-loop-on : goal.invariant-loop-on
invariant-loop-on l = rising row_key (rows l.count l.permits) ≡ true
    → FromEntry l.permits l.count l.entry (l.from + l.on-index) × ((k : ℕ) → members l.set k || ahead l.permits l.count l.taker l.entry l.mode (l.from + l.on-index) k ≡ any (grants k l.taker l.entry l.mode) (rows l.count l.permits))
