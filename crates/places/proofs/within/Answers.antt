-- `places::within` meets its contract: each word has its part of the changes up to the highest given. Assumes nothing.
use mathlib.Core.Path.{◌∙◌}
use Prim.Native.Nat.{◌+◌}
use native.Mathlib.Omega.{arith}
use Rattle.rules.specs.Sets.{Set}
use Rattle.sets.proofs.MemberLaws.{four_words}
use Rattle.places.specs.Statuses.{firsts, in_range}
use Rattle.places.proofs.StatusLaws.{firsts_above, word_cut, within_all}
use Rattle.places.proofs.within.Goals as goal

pub returns : goal.returns
returns c =
    let a = c.args in
    let n = a.given + 1 in let s : Set = in_range a.changes.now a.statuses.low a.statuses.high in
    λ st pa e k.
    four_words (firsts n s) _ _ _ _ (λ k h. firsts_above s n k (omega (arith, c.requires.given_bound)))
    (word_cut s n 0 _ _ c.min.ensures c.word_within.ensures)
    (word_cut s n 1 _ _ c.min-2.ensures c.word_within-2.ensures)
    (word_cut s n 2 _ _ c.min-3.ensures c.word_within-3.ensures)
    (word_cut s n 3 _ _ c.min-4.ensures c.word_within-4.ensures) k
    ∙ within_all a.changes.now a.statuses.low a.statuses.high a.given c.requires.given_bound st pa e k
