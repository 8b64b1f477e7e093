-- `few_permits::note_set` meets its contract: with the set's members where the test passed. Assumes nothing.
use Rattle.sets.specs.Members.{members}
use Rattle.sets.proofs.MemberLaws.{unite_passed}
use Rattle.few_permits.proofs.note_set.Goals as goal

pub returns-then-test : goal.returns-then-test
unfolding members
returns-then-test c = let a = c.args in λ k. unite_passed (members a.noted.now k) (members a.set.now k) _ a.test c.if-test.true (c.insert_all.ensures.by_index k)
