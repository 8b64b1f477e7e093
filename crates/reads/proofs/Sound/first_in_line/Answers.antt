-- `reads::Sound::first_in_line` meets its contract. Assumes nothing.
use mathlib.Core.Path.{sym}
use Rattle.layout.proofs.MemoryLaws.{bytes-sound, line_known}
use Rattle.reads.proofs.ReadLaws.{entry_fits_lem}
use Rattle.reads.proofs.Sound.first_in_line.Goals as goal

pub returns : goal.returns
returns c = let s = c in let w = s.args.self.bytes.now in c.front.ensures _ (sym c.waiters-count.ensures.value) (line_known w s.args.self.sound)

pub overflow_cast-entry : goal.overflow_cast-entry
overflow_cast-entry c = record { fits = entry_fits_lem _ (bytes-sound c.args.self.bytes.now c.args.self.sound) c.args.entry c.requires.entry_value }
