-- `rows::retain` meets its contract: i records were read, and those that stay are closed up. Assumes nothing.
use Rattle.std.specs.Fn.{CalledAt}
use Rattle.rows.proofs.RetainLaws.{Retaining}
use Rattle.rows.proofs.retain.Given as goal

abbrev pub invariant-loop-i : goal.invariant-loop-i
invariant-loop-i g l = Retaining (CalledAt g.F.FnMut) l.initial.stays g.row.N l.fn.n l.initial.s l.s l.stays l.i l.kept
