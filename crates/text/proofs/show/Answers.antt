-- `text::show` meets its contract: the library's text of the number is put after what the buffer holds. Assumes nothing.
use native.Mathlib.Omega.{arith}
use Rattle.std.proofs.Common.{rules}
use Rattle.text.proofs.ShownLaws.{shown-decimal}
use Rattle.text.proofs.show.Goals as goal

pub returns-clause-items : goal.returns-clause-items
returns-clause-items g c = rw (← shown-decimal c.args.n (omega arith)) (search rules)
