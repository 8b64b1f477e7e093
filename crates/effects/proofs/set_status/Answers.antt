-- `effects::set_status` meets its contract. Assumes nothing.
use Rattle.layout.proofs.MemoryLaws.{bytes-sound}
use Rattle.reads.proofs.ReadLaws.{change_fits_lem}
use Rattle.effects.proofs.EffectLaws.{status-given}
use Rattle.effects.proofs.set_status.Goals as goal

pub returns : goal.returns
returns c = let s = c in status-given s.args.w.now s.requires.w_value c.done.result s.args.change s.args.s _ c.store_status.ensures c.done.ensures

pub overflow_cast-change : goal.overflow_cast-change
overflow_cast-change c = record { fits = change_fits_lem _ (bytes-sound c.args.w.now c.requires.w_value) c.args.change c.requires.change_value }
