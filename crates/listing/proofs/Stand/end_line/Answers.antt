-- `listing::Stand::end_line` meets its contract. Assumes nothing.
use mathlib.Core.Path.{ap}
use Rattle.listing.specs.Stands.{standing, is_over}
use Rattle.listing.proofs.StandLaws.{over-line}
use Rattle.listing.proofs.Stand.end_line.Goals as goal

pub returns-in-Over-clause-out_after : goal.returns-in-Over-clause-out_after
returns-in-Over-clause-out_after c = let a = c.args in over-line (standing a.self.now a.line.now a.memory.now a.out.now) (ap is_over c.in-Over.is)
