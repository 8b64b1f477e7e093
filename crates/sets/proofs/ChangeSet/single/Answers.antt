-- `sets::ChangeSet::single` meets its contract: the four words hold c alone. Assumes nothing.
use native.Mathlib.Omega.{arith}
use borrow.Author.Tests.{ne_eqb}
use lib.Dec.{eqb}
use Rattle.sets.proofs.MemberLaws.{four_words}
use Rattle.sets.proofs.ChangeSet.single.Goals as goal

pub returns : goal.returns
returns c = let one = c.args.c in
    four_words (λ k. eqb k one) _ _ _ _ (λ k h. ne_eqb k one (λ q. omega arith))
    c.bit_in.ensures c.bit_in-2.ensures c.bit_in-3.ensures c.bit_in-4.ensures
