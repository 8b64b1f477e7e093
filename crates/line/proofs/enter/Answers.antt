-- `line::enter` meets its contract: four bytes stored where the change stands, or past the last record. Assumes nothing.
use native.Mathlib.Omega.{arith}
use Rattle.cells.proofs.PartLaws.{put_mid-patch}
use Rattle.rules.specs.Line.{make_waiter}
use Rattle.layout.specs.Codec.{waiter_bytes}
use Rattle.line.proofs.LineLaws.{enter_old, enter_new}
use Rattle.line.proofs.enter.Goals as goal

pub returns-in-Some : goal.returns-in-Some
unfolding waiter_bytes make_waiter
returns-in-Some c = let s = c in let a = s.args in let f = c.in-Some.ensures in
    let is = rw c.in-Some.is at c.unwrap_or-at.ensures in
    record {
      upper_bound = omega (arith, s.requires.count_bound);
      tabled = λ l q e. enter_old a.line.now l e a.count q s.requires.count_bound (make_waiter a.change a.entry a.mode) c.in-Some.field-0 f.upper_bound f.found _ (rw is (put_mid-patch _ _ a.line.now _ _ c.copy_from_slice.ensures.after (omega arith))) f.some;
    }

pub returns-in-None : goal.returns-in-None
unfolding waiter_bytes make_waiter
returns-in-None c = let s = c in let a = s.args in let f = c.in-None.ensures in
    let is = rw c.in-None.is at c.unwrap_or-at.ensures in
    record {
      upper_bound = omega (arith, s.requires.count_bound);
      tabled = λ l q e. enter_new a.line.now l e a.count q s.requires.count_bound (make_waiter a.change a.entry a.mode) a.count f.upper_bound f.found _ (rw is (put_mid-patch _ _ a.line.now _ _ c.copy_from_slice.ensures.after (omega arith))) (omega arith);
    }
