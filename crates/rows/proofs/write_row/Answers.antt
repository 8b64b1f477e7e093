-- `rows::write_row` meets its contract: std's copy into the four places. Assumes nothing.
use mathlib.Core.Path.{sym, ap, ◌∙◌}
use Prim.Native.Nat.{◌+◌}
use lib.ListN.{length}
use Rattle.std.proofs.lemmas.List.Edits.{length-between}
use Rattle.cells.proofs.PartLaws.{put_mid-patch}
use Rattle.rows.proofs.write_row.Goals as goal

pub returns : goal.returns
returns c = let a = c.args in let e = c.copy_from_slice.ensures in
    put_mid-patch a.at _ a.s.now a.row _ e.after (sym (ap length e.after) ∙ e.len ∙ length-between a.s.now a.at (a.at + 4) c.requires)
