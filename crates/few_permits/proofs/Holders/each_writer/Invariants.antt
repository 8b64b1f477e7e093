-- `few_permits::Holders::each_writer` meets its contract: the test passed for the writers that were taken out, and the one to come is the lowest of those left. The measure is how far it is below 256. Assumes nothing.
use mathlib.Core.Path.{◌≡◌}
use Prim.Native.Nat.{◌-◌}
use Rattle.std.specs.Option.{unwrap_or}
use Rattle.rules.specs.Base.{lowest_below}
use Rattle.sets.specs.Members.{members}
use Rattle.few_permits.proofs.EachLaws.{Tested}
use Rattle.few_permits.proofs.Holders.each_writer.Given as goal

abbrev pub invariant-loop-lowest : goal.invariant-loop-lowest
invariant-loop-lowest g l = Tested (goal.F-post g l.test) (members l.self.writers) (members l.left) × (unwrap_or l.lowest 256 ≡ lowest_below 256 (members l.left))

abbrev pub decreases-loop-lowest : goal.decreases-loop-lowest
decreases-loop-lowest g l = 256 - lowest_below 256 (members l.left)
