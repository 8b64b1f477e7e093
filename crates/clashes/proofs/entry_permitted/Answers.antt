-- `clashes::entry_permitted` meets its contract: what is found of the entry's own permits is what is asked of the entry. Assumes nothing.
use Rattle.std.proofs.Common.{length}
use Rattle.few_permits.specs.Rows.{permit_row}
use Rattle.clashes.proofs.ClashLaws.{entry_found}
use Rattle.clashes.proofs.entry_permitted.Goals as goal

pub returns-then-few : goal.returns-then-few
returns-then-few c held e = let p = c.args.permits.now in entry_found (length p) (permit_row p) (c.readers-readers.ensures held e) (c.writers-writers.ensures held e) c.few_fit.ensures

pub returns : goal.returns
returns c held e = let p = c.args.permits.now in entry_found (length p) (permit_row p) (c.readers-readers.ensures held e) (c.writers-writers.ensures held e) c.many_fit.ensures
