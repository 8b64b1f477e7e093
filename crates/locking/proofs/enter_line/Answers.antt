-- `locking::enter_line` meets its contract. Assumes nothing.
use mathlib.Core.Path.{sym}
use native.Mathlib.Nat.{lt_of_le_of_lt}
use lib.Dec.{lit≤}
use Rattle.rules.specs.Effects.{wait}
use Rattle.layout.specs.Codec.{decode}
use Rattle.layout.proofs.MemoryLaws.{bytes_again}
use Rattle.layout.proofs.LentLaws.{line_back}
use Rattle.locking.proofs.ArgumentLaws.{lock_known}
use Rattle.locking.proofs.enter_line.Goals as goal

pub returns : goal.returns
unfolding wait
returns c = let s = c in
    let w = s.args.w.now in
    let count = c.waiters-count in
    let enter = c.enter-standing in
    line_back (decode w) (sym (bytes_again w s.requires.w_value)) (enter.ensures.tabled (decode w).line (sym count.ensures.value)) c.store.ensures

pub overflow_cast-change : goal.overflow_cast-change
overflow_cast-change c = record { fits = (lock_known c.args.w.now c.requires.w_value c.args.change c.args.entry c.args.mode c.requires.mode_value).0 }

pub overflow_cast-entry : goal.overflow_cast-entry
overflow_cast-entry c = record { fits = (lock_known c.args.w.now c.requires.w_value c.args.change c.args.entry c.args.mode c.requires.mode_value).1 }

pub overflow_cast-mode : goal.overflow_cast-mode
overflow_cast-mode c = record { fits = lt_of_le_of_lt (lock_known c.args.w.now c.requires.w_value c.args.change c.args.entry c.args.mode c.requires.mode_value).3 (lit≤ tt) }
