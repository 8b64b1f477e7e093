-- `places::word_within` meets its contract: the word has the changes below c. Assumes nothing.
use mathlib.Core.Path.{◌∙◌}
use native.Mathlib.Omega.{arith}
use Rattle.places.specs.Statuses.{in_range}
use Rattle.places.proofs.StatusLaws.{bit_of, word_none, word_more, word_all}
use Rattle.places.proofs.word_within.Goals as goal

pub loop-c-init : goal.loop-c-init
loop-c-init c = let a = c.args in
    (omega arith, λ j h. word_none (in_range a.changes.now a.statuses.low a.statuses.high) a.first j)

pub loop-c-preserved : goal.loop-c-preserved
unfolding in_range
loop-c-preserved c = let l = c.loop-c in let a = c.args in
    (omega arith, word_more (in_range a.changes.now a.statuses.low a.statuses.high) a.first l.c l.word _ _ l.auto.c c.has-test.ensures (c.from.ensures ∙ bit_of c.has-test.result) l.invariant.1)

pub returns : goal.returns
returns c = let l = c.loop-c in let a = c.args in
    word_all (in_range a.changes.now a.statuses.low a.statuses.high) a.first l.c a.end l.word (omega arith) l.invariant.0 l.invariant.1
