-- `handover::delegate` meets its contract: refused by what the window shows, refused by a clash after it, or done. Assumes nothing.
use mathlib.Core.Path.{sym}
use Rattle.std.proofs.lemmas.Result.{err_from_is_err_and}
use Rattle.layout.specs.Codec.{decode}
use Rattle.layout.proofs.MemoryLaws.{bytes-sound}
use Rattle.handover.proofs.DelegateLaws.{to-live, from-fits, to-fits, entry-fits, refused_first, refused_last, handed-over}
use Rattle.handover.proofs.delegate.Goals as goal

pub returns-in_err-delegate : goal.returns-in_err-delegate
returns-in_err-delegate c = let a = c.args in
    let p = err_from_is_err_and c.from_residual.result c.from_residual.ensures.1 in
    rw (p.1, p.2) (refused_first a.w.now c.requires a.from a.to a.entry _ c.in_err-delegate.ensures)

pub named-scope-requires : goal.named-scope-requires
named-scope-requires c = let a = c.args in entry-fits (decode a.w.now) a.from a.to a.entry (sym c.in_ok-delegate.ensures) (bytes-sound a.w.now c.requires)

pub overflow_cast-over : goal.overflow_cast-over
overflow_cast-over c = let a = c.args in record { fits = from-fits (decode a.w.now) a.from a.to a.entry (sym c.in_ok-delegate.ensures) (bytes-sound a.w.now c.requires) }

pub overflow_cast-over-2 : goal.overflow_cast-over-2
overflow_cast-over-2 c = let a = c.args in record { fits = to-fits (decode a.w.now) a.from a.to a.entry (sym c.in_ok-delegate.ensures) (bytes-sound a.w.now c.requires) }

pub hand_over-requires : goal.hand_over-requires
hand_over-requires c = let s = c in
    let a = s.args in record { w_value = s.requires; to_value = to-live (decode a.w.now) a.from a.to a.entry (sym c.in_ok-delegate.ensures) }

pub returns-in_err-hand_over : goal.returns-in_err-hand_over
returns-in_err-hand_over c = let s = c in
    let a = s.args in
    let p = err_from_is_err_and c.from_residual-in_err-hand_over.result c.from_residual-in_err-hand_over.ensures.1 in
    rw (p.1, p.2) (refused_last a.w.now s.requires a.from a.to a.entry c.in_ok-delegate.ensures _ c.named-scope.ensures c.hand_over.new.w c.in_err-hand_over.ensures.w_after _ c.in_err-hand_over.ensures.value)

pub returns : goal.returns
returns c = let s = c in
    let a = s.args in
    handed-over a.w.now s.requires a.from a.to a.entry c.in_ok-delegate.ensures _ c.named-scope.ensures c.hand_over.new.w c.in_ok-hand_over.ensures.w_after c.in_ok-hand_over.ensures.value _ c.done.ensures
