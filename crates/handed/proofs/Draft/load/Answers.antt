-- `Draft::load` meets its contract: the two sections are copied. Assumes nothing.
use mathlib.Core.Path.{◌∙◌}
use Rattle.layout.proofs.MemoryLaws.{locks_known, permits_known}
use Rattle.handed.proofs.Draft.load.Goals as goal

pub returns : goal.returns
returns c = let bs = c.args.w.bytes.now in
    let sound = c.args.w.sound in record {
      lock_bytes = c.copy_from_slice.ensures.after ∙ locks_known bs sound;
      permit_bytes = c.copy_from_slice-2.ensures.after ∙ permits_known bs sound;
      entry-count = c.entries-self.ensures.value;
      permit_count = c.permits-self.ensures.value;
    }
