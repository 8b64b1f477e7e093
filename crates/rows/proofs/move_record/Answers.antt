-- `rows::move_record` meets its contract: the bytes are read, and put in the other place. Assumes nothing.
use mathlib.Core.Path.{◌∙◌}
use native.Mathlib.Omega.{arith}
use borrow.Author.Rules.{rules}
use Rattle.cells.specs.Part.{part}
use Rattle.cells.proofs.PartLaws.{put_mid-patch, length_part}
use Rattle.rows.proofs.move_record.Goals as goal

pub returns : goal.returns
unfolding part
returns g c = let a = c.args in
    put_mid-patch a.to _ a.s.now (part a.s.now a.from g.row.N) _ (c.copy_from_slice-2.ensures.after ∙ (search rules)) (length_part a.s.now a.from g.row.N c.requires.in_bounds ∙ omega arith)
