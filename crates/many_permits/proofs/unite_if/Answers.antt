-- `many_permits::unite_if` meets its contract: with the other set where the test passed, as it was where it failed. Assumes nothing.
use Rattle.sets.specs.Members.{members}
use Rattle.sets.proofs.MemberLaws.{unite_passed, nothing_added}
use Rattle.many_permits.proofs.unite_if.Goals as goal

pub returns-then-test : goal.returns-then-test
returns-then-test c k = let a = c.args in unite_passed (members a.s k) (members a.other k) (members c.unite.result k) a.test c.if-test.true (c.unite.ensures k)

pub returns : goal.returns
returns c k = let a = c.args in nothing_added (members a.s k) (members a.other k) a.test c.if-test.false
