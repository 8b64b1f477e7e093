-- `change_log::move_record` meets its contract: the bytes are read, and put in the other place. Assumes nothing.
use mathlib.Core.Path.{◌∙◌}
use Prim.Native.Nat.{◌*◌}
use native.Mathlib.Omega.{arith}
use borrow.Author.Rules.{rules}
use Rattle.cells.specs.Part.{part}
use Rattle.cells.proofs.PartLaws.{put_mid-patch, length_part}
use Rattle.change_log.proofs.move_record.Goals as goal

pub returns : goal.returns
unfolding part
returns c = let a = c.args in
    let l = a.log.now in
    put_mid-patch (a.j * 6) _ l (part l (a.i * 6) 6) _ (c.copy_from_slice-2.ensures.after ∙ (search rules)) (length_part l (a.i * 6) 6 c.requires.i_in_bounds ∙ omega arith)
