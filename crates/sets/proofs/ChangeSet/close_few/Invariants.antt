-- `sets::ChangeSet::close_few` meets its contract: passes keep what `Growing` says, and the last adds nothing. The measure is how many of 256 are no members. Assumes nothing.
use mathlib.Core.Path.{◌≡◌}
use Prim.Native.Nat.{◌-◌}
use lib.ListN.{length}
use Rattle.rules.specs.Base.{count_below}
use Rattle.layout.specs.Records.{tie_at}
use Rattle.words.specs.Members.{words_have}
use Rattle.passes.proofs.PassLaws.{Growing}
use Rattle.sets.proofs.ChangeSet.close_few.Given as goal

abbrev pub invariant-loop-before : goal.invariant-loop-before
invariant-loop-before l = (length l.set.words ≡ 4) × Growing l.low (tie_at l.ties) l.count (words_have l.initial.set.words) (words_have l.set.words)

abbrev pub decreases-loop-before : goal.decreases-loop-before
decreases-loop-before l = 256 - count_below 256 (words_have l.set.words)
