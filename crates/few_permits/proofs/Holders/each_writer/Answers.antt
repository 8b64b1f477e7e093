-- `few_permits::Holders::each_writer` meets its contract: the test passed for the writers that were taken out. Assumes nothing.
use native.Mathlib.Omega.{arith}
use Rattle.sets.specs.Members.{members}
use Rattle.few_permits.proofs.EachLaws.{none_tested, test_failed, one_tested, fewer_left, all_tested}
use Rattle.few_permits.proofs.Holders.each_writer.Goals as goal

pub loop-lowest-init : goal.loop-lowest-init
loop-lowest-init g c = (none_tested (goal.F-post g c.args.test) (members c.args.self.now.writers), c.first-lowest.ensures)

pub returns-then-not-test : goal.returns-then-not-test
returns-then-not-test g c = let l = c.loop-lowest in
    let lowest = rw c.in-Some.is at l.invariant.1 in
    test_failed (goal.F-post g c.args.test) (members c.args.self.now.writers) (members l.left) l.invariant.0 c.in-Some.writer (omega arith) lowest c.if-not-test.ensures

pub loop-lowest-smaller : goal.loop-lowest-smaller
loop-lowest-smaller g c = let l = c.loop-lowest in
    let lowest = rw c.in-Some.is at l.invariant.1 in
    fewer_left (goal.F-post g c.args.test) (members c.args.self.now.writers) (members l.left) l.invariant.0 c.in-Some.writer (omega arith) lowest (members c.rest-left.result) c.rest-left.ensures

pub loop-lowest-preserved : goal.loop-lowest-preserved
loop-lowest-preserved g c = let l = c.loop-lowest in
    let lowest = rw c.in-Some.is at l.invariant.1 in
    (one_tested (goal.F-post g c.args.test) (members c.args.self.now.writers) (members l.left) l.invariant.0 c.in-Some.writer (omega arith) lowest (members c.rest-left.result) c.rest-left.ensures c.if-not-test.ensures, c.first-lowest-in-Some.ensures)

pub returns : goal.returns
returns g c = let l = c.loop-lowest in
    all_tested (goal.F-post g c.args.test) (members c.args.self.now.writers) (members l.left) l.invariant.0 (rw c.in_default.is at l.invariant.1)
