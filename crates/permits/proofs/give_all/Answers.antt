-- `permits::give_all` meets its contract: the rows from i on have been given. Assumes nothing.
use mathlib.Core.Path.{◌≡◌, refl, ap, ◌∙◌}
use native.Mathlib.Omega.{arith}
use borrow.Author.Rules.{rules}
use Prim.Native.Nat.{◌+◌, ◌-◌}
use Rattle.rows.specs.Rows.{row_of, rows, Stored}
use Rattle.permits.specs.PermitRows.{with_giver}
use Rattle.permits.proofs.CutLaws.{cut_row}
use Rattle.permits.proofs.GiveLaws.{given, given-all, give_none, give_rising, give_next}
use Rattle.permits.proofs.give_all.Goals as goal

pub loop-i-init : goal.loop-i-init
loop-i-init c = let s = c in
    let a = s.args in
    (search rules, refl, λ rise fits. give_none a.s.now a.n a.moved.now a.m a.to (omega arith))

pub loop-i-preserved : goal.loop-i-preserved
unfolding with_giver row_of
loop-i-preserved c = let a = c.args in
    let l = c.loop-i in
    let g = c.insert-count in
    let cut = c.as_chunks in
    let row = ap (with_giver a.to) (cut_row a.moved.now cut.result.0.now cut.ensures.front (l.i - 1) (omega arith)) in
    let e : l.i ≡ l.i - 1 + 1 = omega arith in (
      g.ensures.upper_bound,
      g.auto.s ∙ l.invariant.1,
      λ rise fits.
          let was : Stored (given (rows a.n a.s.now) a.moved.now a.m a.to (l.i - 1 + 1)) a.s.now l.count l.s = rw e at (l.invariant.2 rise fits) in
          give_next a.s.now a.n a.moved.now a.m a.to l.s l.count (l.i - 1) was 1024 fits (omega arith) g.result g.new.s
          (rw row at (g.ensures.stored (give_rising a.s.now a.n a.moved.now a.m a.to l.s l.count (l.i - 1) was rise))),
    )

pub returns : goal.returns
returns c = let a = c.args in
    let l = c.loop-i in
    let z : l.i ≡ 0 = omega arith in record { upper_bound = l.invariant.0; stored = λ rise fits. rw (z, given-all (rows a.n a.s.now) a.moved.now a.m a.to) at (l.invariant.2 rise fits) }
