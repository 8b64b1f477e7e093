-- `sets::ChangeSet::empty` meets its contract: words that are 0 hold none. Assumes nothing.
use mathlib.Core.Path.{refl, ◌≡◌}
use mathlib.Core.List.{[], ◌∷◌}
use Prim.Native.Nat.{ℕ}
use lib.ListN.{get_or}
use Rattle.sets.proofs.Words.{of_words, each_of_4}
use Rattle.sets.proofs.MemberLaws.{words_none}
use Rattle.sets.proofs.ChangeSet.empty.Goals as goal

pub returns : goal.returns
returns c = words_none (of_words (0 ∷ 0 ∷ 0 ∷ 0 ∷ [])) refl (each_of_4 (λ (i : ℕ). get_or (0 ∷ 0 ∷ 0 ∷ 0 ∷ []) i 0 ≡ 0) refl refl refl refl)
