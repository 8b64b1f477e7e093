-- `sets::ChangeSet::minus` meets its contract: the words are joined by `& !`. Assumes nothing.
use mathlib.Core.Path.{◌≡◌, refl}
use mathlib.Core.Bool.{◌&&◌, not}
use Prim.Native.Nat.{ℕ, ◌^◌, ◌-◌}
use borrow.Author.Rules.{rules}
use mir.Val.{Fits}
use mir.Syntax.{w64}
use lib.ListN.{length, get_or}
use lib.Bits.{bit_and}
use Rattle.words.proofs.BitLaws.{word_minus}
use Rattle.sets.proofs.Words.{join_words}
use Rattle.sets.proofs.ChangeSet.minus.Goals as goal

pub returns : goal.returns
returns c = let s = c.args.self in
    let t = c.args.other in
    let ls : length s.words ≡ 4 = search rules in
    let lt : length t.words ≡ 4 = search rules in
    let fits : (i : ℕ) → Fits w64 (get_or t.words i 0) = search rules in
    join_words (λ x y. bit_and x (2 ^ 64 - 1 - y)) (λ p q. p && not q) refl s t ls lt (λ i j h. word_minus (get_or s.words i 0) (get_or t.words i 0) (fits i).fits j h)
