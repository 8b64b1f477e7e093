-- The members of a set of four words. Assumes nothing.
use Rattle.std.specs.Prelude.{List, ℕ, ◌/◌, ◌%◌, get_or}
use Rattle.rules.specs.Sets.{Set}
use Rattle.layout.specs.Codec.{unpack}

-- k is a member of the set of these words: bit k % 64 of word k / 64 is set
unfoldable pub words_have : List ℕ → Set
words_have ws k = unpack (get_or ws (k / 64) 0) (k % 64)
