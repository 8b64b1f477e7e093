-- `Draft::hand_over` meets its contract: the locks are handed over, then the permits. Assumes nothing.
use mathlib.Core.Path.{sym, ◌∙◌}
use Rattle.rules.specs.Effects.{hand_over}
use Rattle.layout.specs.Codec.{decode}
use Rattle.layout.proofs.MemoryLaws.{bytes-sound}
use Rattle.reads.proofs.ReadLaws.{modes_known, none_from}
use Rattle.handed.proofs.Draft.hand_over.Goals as goal

pub returns : goal.returns
unfolding hand_over
returns c = let bs = c.args.w.bytes.now in
    let sound = c.args.w.sound in
    let was = c.load.ensures in
    let locks = c.hand_locks.ensures in
    let now = c.hand_over-self.ensures.tabled (decode bs).permits (sym (locks.rest.2 ∙ was.permit_count)) (locks.rest.0 ∙ was.permit_bytes) (bytes-sound bs sound).permit_order in record {
      lock_bytes = locks.locks (decode bs).held (modes_known bs sound) (none_from bs sound _ was.entry-count) was.lock_bytes;
      permit_bytes = now.bytes;
      entry-count = locks.rest.1 ∙ was.entry-count;
      permit_count = now.count;
    }
