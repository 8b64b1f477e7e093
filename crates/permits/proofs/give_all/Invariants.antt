-- `permits::give_all` meets its contract: the rows from i on have been given. Assumes nothing.
use mathlib.Core.Path.{◌≡◌}
use mathlib.Core.Bool.{true}
use Prim.Native.Nat.{◌+◌, ◌≤◌}
use lib.ListN.{length}
use Rattle.rules.specs.Base.{rising}
use Rattle.rows.specs.Rows.{row_key, rows, Stored}
use Rattle.permits.proofs.GiveLaws.{given}
use Rattle.permits.proofs.give_all.Given as goal

abbrev pub invariant-loop-i : goal.invariant-loop-i
invariant-loop-i l = (l.count ≤ 1024) × (length l.s ≡ length l.initial.s) × (rising row_key (rows l.n l.initial.s) ≡ true → l.n + l.m ≤ 1024 → Stored (given (rows l.n l.initial.s) l.moved l.m l.to l.i) l.initial.s l.count l.s)
