-- `locking::in_the_way` meets its contract: a holder, nobody, or who is first in line. Assumes nothing.
use mathlib.Core.Path.{refl, sym, ◌∙◌}
use native.Mathlib.Omega.{arith}
use Rattle.layout.specs.Codec.{decode}
use Rattle.locking.proofs.ArgumentLaws.{lock_named}
use Rattle.locking.proofs.OutcomeLaws.{way_held, way_own, way_first, way_none}
use Rattle.locking.proofs.in_the_way.Goals as goal

pub returns-in-Some : goal.returns-in-Some
returns-in-Some c = let a = c.args in
    let found = c.lock_blocker.ensures in
    let higher = rw c.in-Some.is at found.numbered in
    record { lowest = way_held (decode a.view.bytes.now) a.change a.entry a.mode c.in-Some.holder (rw c.in-Some.is at found.lowest) (λ z. omega arith); numbered = higher }

pub first_in_line-requires : goal.first_in_line-requires
first_in_line-requires c = let a = c.args in record { entry_value = (lock_named a.view.bytes.now a.view.sound a.change a.entry a.mode c.requires.mode_value).1 }

pub returns-in_err-first-clause-lowest : goal.returns-in_err-first-clause-lowest
returns-in_err-first-clause-lowest c = let a = c.args in
    let none = c.from_residual.ensures in
    rw none (way_none (decode a.view.bytes.now) a.change a.entry a.mode 0 (rw c.in_default.is at c.lock_blocker.ensures.lowest) refl 0 c.in_err-first.ensures refl)

pub returns-then-first-eq0-clause-lowest : goal.returns-then-first-eq0-clause-lowest
returns-then-first-eq0-clause-lowest c = let a = c.args in
    way_none (decode a.view.bytes.now) a.change a.entry a.mode 0 (rw c.in_default.is at c.lock_blocker.ensures.lowest) refl c.in_ok-first.first c.in_ok-first.ensures c.if-first-eq0.true

pub returns-then-own-clause-lowest : goal.returns-then-own-clause-lowest
returns-then-own-clause-lowest c = let a = c.args in
    way_own (decode a.view.bytes.now) a.change a.entry a.mode 0 (rw c.in_default.is at c.lock_blocker.ensures.lowest) refl c.in_ok-first.first c.in_ok-first.ensures (sym c.from.ensures ∙ c.if-own.true)

pub returns-clause-lowest : goal.returns-clause-lowest
returns-clause-lowest c = let a = c.args in
    way_first (decode a.view.bytes.now) a.change a.entry a.mode 0 (rw c.in_default.is at c.lock_blocker.ensures.lowest) refl c.in_ok-first.first c.in_ok-first.ensures (λ e. c.if-own.false (c.from.ensures ∙ e))
