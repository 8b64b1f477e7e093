-- `words::remove` meets its contract: the digit of its word is 0. Assumes nothing.
use mathlib.Core.Path.{◌≡◌}
use Prim.Native.Nat.{◌/◌}
use native.Mathlib.Omega.{arith}
use borrow.Author.Rules.{rules}
use Rattle.words.proofs.BitLaws.{remove_word}
use Rattle.words.proofs.remove.Goals as goal

pub returns : goal.returns
returns c = let a = c.args in
    let i : c.from-i.result ≡ a.c / 64 = search rules in record { by_index = rw i (remove_word a.words.now a.c (omega arith)) }
