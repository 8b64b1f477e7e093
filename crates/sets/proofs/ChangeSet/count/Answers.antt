-- `sets::ChangeSet::count` meets its contract: the ones of each word add up to the members. Assumes nothing.
use Prim.Native.Nat.{ℕ}
use borrow.Author.Rules.{rules}
use mir.Val.{Fits}
use mir.Syntax.{w64}
use lib.ListN.{get_or}
use Rattle.sets.proofs.Words.{count_words}
use Rattle.sets.proofs.ChangeSet.count.Goals as goal

pub returns : goal.returns
returns c =
    let small : (i : ℕ) → Fits w64 (get_or c.args.self.words i 0) = search rules in
    count_words c.args.self (λ i. (small i).fits)
