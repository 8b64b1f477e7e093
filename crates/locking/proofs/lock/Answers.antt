-- `locking::lock` meets its contract: covered, blocked, or granted. Assumes nothing.
use mathlib.Core.Path.{refl, ◌∙◌}
use mathlib.Core.Logic.{◌≢◌}
use Prim.Native.Nat.{ℕ, ◌<◌}
use native.Mathlib.Omega.{arith}
use native.Mathlib.Nat.{lt_of_le_of_lt}
use lib.Dec.{lit≤}
use Rattle.layout.specs.Codec.{decode}
use Rattle.locking.proofs.ArgumentLaws.{lock_named, lock_known}
use Rattle.locking.proofs.OutcomeLaws.{lock_covered, lock_blocked, lock_taken}
use Rattle.locking.proofs.lock.Goals as goal

positive : {n : ℕ} → 0 < n → n ≢ 0
positive h z = omega arith

pub leave_line-requires : goal.leave_line-requires
leave_line-requires c = let s = c in record { w_value = s.requires.w_value; change_value = (lock_named s.args.w.now s.requires.w_value s.args.change s.args.entry s.args.mode s.requires.mode_value).0 }

pub returns-then-covered : goal.returns-then-covered
returns-then-covered c = let s = c in lock_covered (decode s.args.w.now) s.args.change s.args.entry s.args.mode _ (c.from.ensures ∙ c.held.ensures) c.done.result _ c.if-covered.true c.leave_line.ensures c.done.ensures

pub returns-in-Some : goal.returns-in-Some
returns-in-Some c = let s = c in
    lock_blocked (decode s.args.w.now) s.args.change s.args.entry s.args.mode _ (c.from.ensures ∙ c.held.ensures) _ _ c.if-covered.false c.in-Some.number (rw c.in-Some.is at c.in_the_way.ensures.lowest) (positive (rw c.in-Some.is at c.in_the_way.ensures.numbered)) c.enter_line.ensures (c.blocked.ensures.0, cc)

pub leave_line-requires-2 : goal.leave_line-requires-2
leave_line-requires-2 c = let s = c in record { w_value = s.requires.w_value; change_value = (lock_named s.args.w.now s.requires.w_value s.args.change s.args.entry s.args.mode s.requires.mode_value).0 }

pub returns : goal.returns
returns c = let s = c in
    lock_taken (decode s.args.w.now) s.args.change s.args.entry s.args.mode _ (c.from.ensures ∙ c.held.ensures) c.done-2.result _ c.if-covered.false 0 (rw c.in_default.is at c.in_the_way.ensures.lowest) refl c.leave_line-2.ensures _ c.grant.ensures c.done-2.ensures

pub overflow_cast-change : goal.overflow_cast-change
overflow_cast-change c = record { fits = (lock_known c.args.w.now c.requires.w_value c.args.change c.args.entry c.args.mode c.requires.mode_value).0 }

pub overflow_cast-entry : goal.overflow_cast-entry
overflow_cast-entry c = record { fits = (lock_known c.args.w.now c.requires.w_value c.args.change c.args.entry c.args.mode c.requires.mode_value).1 }

pub overflow_cast-mode : goal.overflow_cast-mode
overflow_cast-mode c = record { fits = lt_of_le_of_lt (lock_known c.args.w.now c.requires.w_value c.args.change c.args.entry c.args.mode c.requires.mode_value).3 (lit≤ tt) }
