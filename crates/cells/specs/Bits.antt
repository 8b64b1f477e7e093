-- The bits of bytes. Assumes nothing.
use Rattle.std.specs.Prelude.{List, ℕ, ◌+◌, ◌/◌, ◌%◌, get_or}
use Rattle.rules.specs.Sets.{Set}
use Rattle.layout.specs.Codec.{unpack}

-- k is a member of the set of the bytes from a place on: bit k % 8 of the byte k / 8 further is set
abbrev pub bytes_have : List ℕ → ℕ → Set
bytes_have bs at k = unpack (get_or bs (at + k / 8) 0) (k % 8)
