-- `effects::leave_line` meets its contract. Assumes nothing.
use mathlib.Core.Path.{sym}
use Rattle.rules.specs.Effects.{leave}
use Rattle.layout.specs.Codec.{decode}
use Rattle.layout.proofs.MemoryLaws.{bytes_again, bytes-sound}
use Rattle.layout.proofs.LentLaws.{line_back}
use Rattle.reads.proofs.ReadLaws.{change_fits_lem}
use Rattle.effects.proofs.leave_line.Goals as goal

pub returns : goal.returns
unfolding leave
returns c = let s = c in
    let w = s.args.w.now in
    let count = c.waiters-count in
    let left = c.leave-left in
    line_back (decode w) (sym (bytes_again w s.requires.w_value)) (left.ensures.tabled (decode w).line (sym count.ensures.value)) c.store.ensures

pub overflow_cast-change : goal.overflow_cast-change
overflow_cast-change c = record { fits = change_fits_lem _ (bytes-sound c.args.w.now c.requires.w_value) c.args.change c.requires.change_value }
