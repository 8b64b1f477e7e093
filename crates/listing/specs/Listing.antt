-- docs/RULES.md, "The script program": what is printed, as a function of the input's bytes. Assumes nothing.
use Rattle.std.specs.Prelude.{cond, List, [], ◌∷◌, ◌++◌, ℕ, suc, replicate}
use Rattle.layout.specs.Codec.{window_size}
use Rattle.layout.specs.Memory.{same_bytes}
use Rattle.text.specs.Decimal.{ascii, shown_before}
use Rattle.text.specs.Parts.{lines}
use Rattle.script_lines.specs.Lines.{reply_to}

-- "The first line is"
unfoldable pub first_line : List ℕ
first_line = ascii "call,a,b,c,d"

-- what is printed first
unfoldable pub header : List ℕ
header = ascii "line,answer,number\n"

-- a printed line: "its place from 1, its answer and second number"; 44 is a comma, 10 a newline
unfoldable pub printed : (place answer number : ℕ) → List ℕ
printed p a n = shown_before p (44 ∷ shown_before a (44 ∷ shown_before n (10 ∷ [])))

-- "Memory starts all 0, so a call before open gets 1"
unfoldable pub zero_memory : List ℕ
zero_memory = replicate window_size 0

-- "for each later line, broken ones counted": from a place on, each on the memory that the last one left
unfoldable pub replies : (place : ℕ) → List ℕ → List (List ℕ) → List ℕ
replies p mem [] = []
replies p mem (l ∷ ls) = printed p (reply_to mem l).answer (reply_to mem l).number ++ replies (suc p) (reply_to mem l).after ls

-- "After a broken first line it prints the header, then 0,30,0, and ends; empty input prints the header only"
unfoldable pub answered : List (List ℕ) → List ℕ
answered [] = []
answered (l ∷ ls) = cond (same_bytes l first_line) (replies 1 zero_memory ls) (printed 0 30 0)

unfoldable pub listing : List ℕ → List ℕ
listing input = header ++ answered (lines input)
