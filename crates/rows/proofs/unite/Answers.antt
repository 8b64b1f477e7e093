-- `rows::unite` meets its contract: the same operations, or both. Assumes nothing.
use mathlib.Core.Path.{◌∙◌, ap, sym}
use Prim.Native.Nat.{◌+◌, ◌*◌}
use lib.ListN.{set}
use lib.Seq.{set-get_or}
use Rattle.rows.proofs.AddLaws.{united_same, united_other}
use Rattle.rows.proofs.unite.Goals as goal

pub returns-then-s-at : goal.returns-then-s-at
returns-then-s-at c = let a = c.args in
    ap (set a.s.now (4 * a.i + 3)) (united_other _ a.more c.if-s-at.true)

pub returns-else-s-at : goal.returns-else-s-at
returns-else-s-at c = let a = c.args in
    sym (set-get_or a.s.now (4 * a.i + 3) 0) ∙ ap (set a.s.now (4 * a.i + 3)) (united_same _ a.more c.if-s-at.false)
