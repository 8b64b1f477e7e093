-- `cells::few_zero` meets its contract: the second half has what the first leaves. Assumes nothing.
use mathlib.Core.Path.{refl}
use Prim.Native.Nat.{◌+◌}
use native.Mathlib.Nat.{sub_self}
use native.Mathlib.Omega.{arith}
use Rattle.rules.specs.Base.{all_below}
use Rattle.cells.proofs.ZeroLaws.{block_passed, block_failed, block_last}
use Rattle.cells.proofs.few_zero.Goals as goal

pub returns-then-not-run_zero : goal.returns-then-not-run_zero
returns-then-not-run_zero c = let a = c.args in
    block_failed a.s.now a.from a.from 512 a.to _ (omega arith) (omega arith) c.run_zero-2.ensures c.if-not-run_zero.true-raw

pub returns : goal.returns
unfolding all_below
returns c = let a = c.args in
    let half = block_passed a.s.now a.from a.from 512 _ (omega arith) (rw (sub_self a.from) refl) c.run_zero-2.ensures c.if-not-run_zero.false-raw in
    block_last a.s.now a.from (a.from + 512) 512 a.to _ (omega arith) (omega arith) half c.run_zero-3.ensures

pub returns-then-to-from-lt-HALF : goal.returns-then-to-from-lt-HALF
returns-then-to-from-lt-HALF c = c.run_zero.ensures
