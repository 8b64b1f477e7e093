-- `few_permits::note_one` meets its contract: with the number where the test passed. Assumes nothing.
use Rattle.sets.specs.Members.{members}
use Rattle.sets.proofs.MemberLaws.{add_passed}
use Rattle.few_permits.proofs.note_one.Goals as goal

pub returns-then-test : goal.returns-then-test
unfolding members
returns-then-test c = let a = c.args in λ k. add_passed a.c k (members a.noted.now k) _ a.test c.if-test.true (c.insert.ensures.by_index k)
