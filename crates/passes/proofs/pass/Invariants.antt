-- `passes::pass` meets its contract: after j ties, what the first j that it comes to add. Assumes nothing.
use mathlib.Core.Path.{◌≡◌}
use lib.ListN.{length}
use Rattle.words.specs.Members.{words_have}
use Rattle.passes.specs.Passes.{tie_from, passed}
use Rattle.passes.proofs.pass.Given as goal

abbrev pub invariant-loop-j : goal.invariant-loop-j
invariant-loop-j l = (length l.words ≡ 4) × (words_have l.words ≡ passed l.low (tie_from l.back l.ties l.count) l.j (words_have l.initial.words))
