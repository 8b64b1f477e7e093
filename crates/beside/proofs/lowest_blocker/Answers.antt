-- `beside::lowest_blocker` meets its contract: the lowest of those left, unless that is nobody's number. Assumes nothing.
use borrow.Author.Rules.{rules}
use Rattle.words.specs.Members.{words_have}
use Rattle.sets.specs.Members.{members}
use Rattle.beside.proofs.BlockerLaws.{nobody_left, lowest_numbered}
use Rattle.beside.proofs.lowest_blocker.Goals as goal

pub returns-then-is_empty-clause-lowest : goal.returns-then-is_empty-clause-lowest
unfolding members
returns-then-is_empty-clause-lowest c = let a = c.args in
    let none = c.is_empty in
    nobody_left (members a.clashing) (members a.permitting) (words_have c.insert.new.words) (members c.minus-left.result) a.change c.insert.ensures.by_index c.minus-left.ensures none.result none.ensures c.if-is_empty.true

pub returns-clause-lowest : goal.returns-clause-lowest
unfolding members
returns-clause-lowest c = let a = c.args in
    lowest_numbered (members a.clashing) (members a.permitting) (words_have c.insert.new.words) (members c.minus-left.result) a.change c.insert.ensures.by_index c.minus-left.ensures
    _ (λ x b k. search rules) c.first.result c.filter.result c.first.ensures (search rules) c.filter.ensures
