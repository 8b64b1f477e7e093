-- `sets::ChangeSet::is_empty` meets its contract: the words are 0 just where there is no member. Assumes nothing.
use mathlib.Core.Path.{◌≡◌}
use Prim.Native.Nat.{ℕ}
use borrow.Author.Rules.{rules}
use mir.Val.{Fits}
use mir.Syntax.{w64}
use lib.ListN.{length, get_or}
use Rattle.sets.proofs.TestLaws.{empty_test}
use Rattle.sets.proofs.ChangeSet.is_empty.Goals as goal

pub returns : goal.returns
returns c = let s = c.args.self in
    let len : length s.words ≡ 4 = search rules in
    let fits : (i : ℕ) → Fits w64 (get_or s.words i 0) = search rules in
    empty_test s len (λ i. (fits i).fits)
