-- `sets::ChangeSet::unite` meets its contract: the words are joined by `|`. Assumes nothing.
use mathlib.Core.Path.{◌≡◌, refl}
use mathlib.Core.Bool.{◌||◌}
use borrow.Author.Rules.{rules}
use lib.ListN.{length, get_or}
use lib.Bits.{bit_or}
use Rattle.cells.proofs.Digits.{unpack_or}
use Rattle.sets.proofs.Words.{join_words}
use Rattle.sets.proofs.ChangeSet.unite.Goals as goal

pub returns : goal.returns
returns c = let s = c.args.self in
    let t = c.args.other in
    let ls : length s.words ≡ 4 = search rules in
    let lt : length t.words ≡ 4 = search rules in
    join_words bit_or ◌||◌ refl s t ls lt (λ i j h. unpack_or (get_or s.words i 0) (get_or t.words i 0) j)
