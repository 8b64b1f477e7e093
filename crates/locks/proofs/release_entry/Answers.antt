-- `locks::release_entry` meets its contract: both sets without the ended. Assumes nothing.
use mathlib.Core.Path.{◌∙◌, ap}
use Rattle.rules.specs.Sets.{put_all}
use Rattle.layout.specs.Codec.{lock_section}
use Rattle.sets.specs.Members.{members}
use Rattle.locks.proofs.RowLaws.{row_without}
use Rattle.locks.proofs.ChangeLaws.{on_entry}
use Rattle.locks.proofs.release_entry.Goals as goal

pub returns : goal.returns
returns c held e = let a = c.args in
    let l = c.load-before.ensures held e in
    c.store.ensures held (put_all (members a.ended) 0 (held a.entry)) e
    (record {
      readers = row_without (held a.entry) (members a.ended) _ _ 0 l.readers c.minus.ensures;
      writers = row_without (held a.entry) (members a.ended) _ _ 1 l.writers c.minus-2.ensures;
    })
    ∙ ap lock_section (on_entry (put_all (members a.ended) 0) held a.entry)
