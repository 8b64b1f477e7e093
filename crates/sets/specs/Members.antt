-- The members of a set of changes, and a set as 32 bytes. Assumes nothing.
use Rattle.std.specs.Prelude.{Bool, cond, ◌&&◌, List, ℕ, ◌+◌, ◌*◌, leb, ltb, length}
use Rattle.std.specs.Bool.{beq}
use Rattle.rules.specs.Base.{table}
use Rattle.rules.specs.Sets.{Set}
use Rattle.layout.specs.Codec.{pack}
use Rattle.cells.specs.Part.{patch}
use Rattle.cells.specs.Bits.{bytes_have}
use Rattle.words.specs.Members.{words_have}
use Rattle.sets.specs.declared.ChangeSet.{ChangeSet}

-- the members of a set: those of its words
unfoldable pub members : ChangeSet → Set
members s = words_have s.words

-- both sets hold k, or neither
unfoldable pub agree : Set → Set → ℕ → Bool
agree s t k = beq (s k) (t k)

-- the set of the 32 bytes at a place; empty where there are not 32
unfoldable pub loaded : List ℕ → ℕ → Set
loaded bs at k = ltb k 256 && leb (at + 32) (length bs) && bytes_have bs at k

-- byte i of a set's 32: the tests of i * 8, i * 8 + 1, …, the first in its lowest bit
unfoldable pub set_byte : Set → ℕ → ℕ
set_byte s i = pack 8 (λ b. s (i * 8 + b))

-- the 32 bytes
unfoldable pub set_bytes : Set → List ℕ
set_bytes s = table 32 0 (set_byte s)

-- the bytes with a set's 32 at a place; unchanged where there is no room for them
unfoldable pub stored : Set → List ℕ → ℕ → List ℕ
stored s bs at = cond (leb (at + 32) (length bs)) (patch bs at (set_bytes s)) bs
