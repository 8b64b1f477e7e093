-- docs/RULES.md, "The script program": which call a line of a script asks for, and what it is answered. Assumes nothing.
use Rattle.std.specs.Prelude.{cond, List, [], ◌∷◌, ℕ, suc, leb, length, Option as Maybe, Some}
use Rattle.std.proofs.Math.Option.{Option, none}
use Rattle.rules.specs.Calls.{Call, Reply}
use Rattle.layout.specs.Memory.{same_bytes}
use Rattle.text.specs.Decimal.{ascii, number}
use Rattle.text.specs.Parts.{parted_by}
use Rattle.script_calls.specs.Fields.{call_of, reply_of}

-- the call names, in the order of "The calls": their places from 1 are the call numbers
unfoldable pub names : List (List ℕ)
unfolding ascii
names =
    ascii "open" ∷ ascii "initiate" ∷ ascii "begin" ∷ ascii "complete" ∷ ascii "lock" ∷ ascii "read" ∷ ascii "write" ∷ ascii "permit" ∷ ascii "delegate"
    ∷ ascii "depend" ∷ ascii "commit" ∷ ascii "abort" ∷ ascii "status" ∷ ascii "parent" ∷ ascii "value" ∷ []

-- the place of a text among others, of which the first has place k; 0 if it is not there
unfoldable pub place_among : ℕ → List (List ℕ) → List ℕ → ℕ
place_among k [] l = 0
place_among k (n ∷ ns) l = cond (same_bytes l n) k (place_among (suc k) ns l)

unfoldable pub call_number : List ℕ → ℕ
call_number l = place_among 1 names l

-- the call of a call number with four fields that may be no number
unfoldable pub numbered : (call : ℕ) (a b c d : Maybe ℕ) → Option Call
numbered k (Some a) (Some b) (Some c) (Some d) = call_of k a b c d
numbered k _ _ _ _ = none

-- "a call name and four numbers, parted by single commas"
unfoldable pub fielded : List (List ℕ) → Option Call
fielded [] = none
fielded (n ∷ []) = none
fielded (n ∷ a ∷ []) = none
fielded (n ∷ a ∷ b ∷ []) = none
fielded (n ∷ a ∷ b ∷ c ∷ []) = none
fielded (n ∷ a ∷ b ∷ c ∷ d ∷ []) = numbered (call_number n) (number a) (number b) (number c) (number d)
fielded (n ∷ a ∷ b ∷ c ∷ d ∷ e ∷ l) = none

-- "A broken line, or one above 64 bytes": no call
unfoldable pub line_call : List ℕ → Option Call
line_call l = cond (leb (length l) 64) (fielded (parted_by 44 l)) none

unfoldable pub reply_to : List ℕ → List ℕ → Reply (List ℕ)
reply_to mem l = reply_of mem (line_call l)
