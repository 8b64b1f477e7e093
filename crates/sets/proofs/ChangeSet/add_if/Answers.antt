-- `sets::ChangeSet::add_if` meets its contract: with the number where the test passed, as it was where it failed. Assumes nothing.
use lib.Dec.{eqb}
use Rattle.sets.specs.Members.{members}
use Rattle.sets.proofs.MemberLaws.{add_passed, nothing_added}
use Rattle.sets.proofs.ChangeSet.add_if.Goals as goal

pub returns-then-test : goal.returns-then-test
returns-then-test c k = let a = c.args in add_passed a.c k (members a.self k) (members c.add.result k) a.test c.if-test.true (c.add.ensures k)

pub returns : goal.returns
returns c k = let a = c.args in nothing_added (members a.self k) (eqb a.c k) a.test c.if-test.false
