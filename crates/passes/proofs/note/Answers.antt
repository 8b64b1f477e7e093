-- `passes::note` meets its contract: the digit is set in its word of the row. Assumes nothing.
use mathlib.Core.Path.{◌≡◌}
use Prim.Native.Nat.{◌/◌}
use native.Mathlib.Omega.{arith}
use borrow.Author.Rules.{rules}
use Rattle.passes.proofs.NoteLaws.{noted}
use Rattle.passes.proofs.note.Goals as goal

pub returns : goal.returns
returns c = let a = c.args in
    let row : c.from.result ≡ a.a = search rules in
    let word : c.from-2.result ≡ a.b / 64 = search rules in
    rw (row, word) (noted a.rows.now a.a a.b c.told-rows (omega arith) (omega arith))
