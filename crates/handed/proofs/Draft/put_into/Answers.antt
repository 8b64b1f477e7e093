-- `Draft::put_into` meets its contract: the tables are copied in, the log is handed over, and the figure of permits stored. Assumes nothing.
use mathlib.Core.Path.{sym, ◌∙◌}
use Rattle.layout.specs.Codec.{decode}
use Rattle.layout.proofs.MemoryLaws.{bytes_again}
use Rattle.scope.specs.Entries.{entries_of}
use Rattle.handed.proofs.DraftLaws.{put_in_place}
use Rattle.handed.proofs.Draft.put_into.Goals as goal

pub returns : goal.returns
returns c = λ h.
    let s = c in
    let over = s.args.over in
    let bs = s.args.w.now in
    put_in_place (decode bs) over.from over.to (entries_of over.scope) bs c.copy_from_slice.new.self c.copy_from_slice-2.new.self (bytes_again bs s.requires)
    (c.copy_from_slice.ensures.after ∙ h.lock_bytes) (c.copy_from_slice-2.ensures.after ∙ h.permit_bytes) s.args.self.now.count c.hand_over.new.log c.store.new.head h.permit_count
    (c.hand_over.ensures (decode bs).log (sym c.records-records.ensures.value)) c.store.ensures
