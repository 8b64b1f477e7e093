-- `sets::ChangeSet::equal` meets its contract: the words agree just where the members do. Assumes nothing.
use mathlib.Core.Path.{◌≡◌, ◌∙◌}
use Prim.Native.Nat.{ℕ}
use borrow.Author.Rules.{rules}
use mir.Val.{Fits}
use mir.Syntax.{w64}
use lib.ListN.{length, get_or}
use Rattle.sets.proofs.TestLaws.{equal_test}
use Rattle.sets.proofs.ChangeSet.equal.Goals as goal

pub returns : goal.returns
returns c = let s = c.args.self in
    let t = c.args.other in
    let ls : length s.words ≡ 4 = search rules in
    let lt : length t.words ≡ 4 = search rules in
    let fs : (i : ℕ) → Fits w64 (get_or s.words i 0) = search rules in
    let ft : (i : ℕ) → Fits w64 (get_or t.words i 0) = search rules in
    c.eq.ensures ∙ equal_test s t ls lt (λ i. (fs i).fits) (λ i. (ft i).fits)
