-- `cells::all_zero` meets its contract: all bytes below i are 0, and the last block has those that are left. Assumes nothing.
use Prim.Native.Nat.{◌+◌}
use native.Mathlib.Nat.{sub_self}
use native.Mathlib.Omega.{arith}
use borrow.Author.Rules.{rules}
use Rattle.rules.specs.Base.{all_below}
use Rattle.cells.proofs.ZeroLaws.{block_passed, block_failed, block_last}
use Rattle.cells.proofs.all_zero.Goals as goal
use Rattle.cells.proofs.all_zero.Goals.{else-loop-i-test, then-loop-i-test+else-not-run_zero+else-step-i-end}

pub loop-i-init : goal.loop-i-init
unfolding all_below
loop-i-init c = (search rules, rw (sub_self c.args.from))

pub returns-then-not-run_zero : goal.returns-then-not-run_zero
returns-then-not-run_zero c = let l = c.loop-i in let a = c.args in
    block_failed a.s.now a.from l.i 1024 a.to _ l.invariant.0 (omega arith) c.run_zero.ensures c.if-not-run_zero.true-raw

pub loop-i-preserved : goal.loop-i-preserved
loop-i-preserved c = let l = c.loop-i in let a = c.args in
    (search rules, block_passed a.s.now a.from l.i 1024 _ l.invariant.0 l.invariant.1 c.run_zero.ensures c.if-not-run_zero.false-raw)

pub returns : goal.returns
returns c = let l = c.loop-i in let a = c.args in
    elim c.loop-i-test.branch [
      | else-loop-i-test w ↦ block_last a.s.now a.from l.i 1024 a.to _ (omega arith) (omega arith) l.invariant.1 c.run_zero-2.ensures
      | then-loop-i-test+else-not-run_zero+else-step-i-end w ↦
          let passed = block_passed a.s.now a.from l.i 1024 _ l.invariant.0 l.invariant.1 w.run_zero.ensures w.if-not-run_zero.false-raw in
          block_last a.s.now a.from (l.i + 1024) 1024 a.to _ (omega arith) (omega arith) passed c.run_zero-2.ensures
    ]
