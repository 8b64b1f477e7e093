-- `words::insert` meets its contract: the digit is set in its word. Assumes nothing.
use mathlib.Core.Path.{◌≡◌}
use Prim.Native.Nat.{◌/◌}
use native.Mathlib.Omega.{arith}
use borrow.Author.Rules.{rules}
use Rattle.words.proofs.BitLaws.{insert_word}
use Rattle.words.proofs.insert.Goals as goal

pub returns-clause-by_index : goal.returns-clause-by_index
returns-clause-by_index c = let a = c.args in
    let i : c.from-i.result ≡ a.c / 64 = search rules in rw i (insert_word a.words.now a.c (omega arith))
