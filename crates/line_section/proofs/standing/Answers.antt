-- `line_section::standing` meets its contract: the places passed fit, and their changes were seen. Assumes nothing.
use native.Mathlib.Omega.{arith}
use borrow.Author.Rules.{rules}
use Rattle.rules.proofs.TurnLaws.{turns_done}
use Rattle.line_section.proofs.LineLaws.{none_seen, place-fails, place_again, place-seen}
use Rattle.line_section.proofs.standing.Goals as goal

pub loop-j-init : goal.loop-j-init
loop-j-init c = let s = c in (search rules, λ e. none_seen s.args.line.now s.args.entries s.args.changes.now _ e)

pub returns-then-not-waiter_at : goal.returns-then-not-waiter_at
returns-then-not-waiter_at c = let a = c.args in let l = c.loop-j in let w = c.waiter_at in
    λ e. place-fails a.line.now a.entries a.changes.now l.j l.seen (l.invariant.1 e) w.result w.ensures a.count (omega arith) c.if-not-waiter_at.true-raw

pub returns-then-not-is_new : goal.returns-then-not-is_new
returns-then-not-is_new c = let a = c.args in let l = c.loop-j in
    let w = c.waiter_at in let n = c.is_new in
    λ e. place_again a.line.now a.entries a.changes.now l.j l.seen (l.invariant.1 e) w.result w.ensures n.result n.ensures.value c.if-not-waiter_at.false-raw a.count (omega arith) c.if-not-is_new.true-raw

pub loop-j-preserved : goal.loop-j-preserved
loop-j-preserved c = let a = c.args in let l = c.loop-j in
    let w = c.waiter_at in let n = c.is_new in
    (search rules, λ e. place-seen a.line.now a.entries a.changes.now l.j l.seen (l.invariant.1 e) w.result w.ensures n.result n.ensures.value c.if-not-waiter_at.false-raw c.if-not-is_new.false-raw _ n.ensures.by_index)

pub returns : goal.returns
returns c = λ e. turns_done _ _ _ (c.loop-j.invariant.1 e).passed (omega arith)
