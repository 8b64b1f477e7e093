-- `sections::rows` meets its contract: the bytes that the set is laid out in are read again as the set. Assumes nothing.
use mathlib.Core.Path.{◌∙◌, refl}
use Rattle.sets.specs.Members.{members}
use Rattle.sections.proofs.RowLaws.{rows-stored}
use Rattle.sections.proofs.rows.Goals as goal

pub returns : goal.returns
returns c = let a = c.args in
    c.rows_against.ensures ∙ rows-stored a.locks.now a.entries (members a.live) _ _ refl c.store.ensures
