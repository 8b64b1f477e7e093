-- `few_permits::writer_fits` meets its contract: of the holders, the lowest that was not noted and is not the writer. Assumes nothing.
use lib.ListN.{length}
use Rattle.sets.specs.Members.{members}
use Rattle.few_permits.specs.Rows.{permit_row}
use Rattle.std.specs.Option.{unwrap_or}
use Rattle.few_permits.proofs.EachLaws.{nobody_found}
use Rattle.few_permits.proofs.NoteLaws.{blocker_noted}
use Rattle.few_permits.proofs.writer_fits.Goals as goal

pub returns : goal.returns
returns c = let a = c.args in
    let h = a.holders.now in
    let noted = c.note_all-noted in
    let found = c.lowest_blocker in
    nobody_found found.result _ c.is_none.result
    (blocker_noted (length a.permits.now) (permit_row a.permits.now) (members h.readers) (members h.writers) a.writer (members c.unite-all.result) (members noted.result) (unwrap_or found.result 0)
    c.unite-all.ensures noted.ensures found.ensures.lowest)
    found.ensures.numbered c.is_none.ensures
