-- The listing as it comes while the input is fed byte by byte: `FeedLaws` proves that it is `listing`'s, in whatever pieces the input comes. Assumes nothing.
use Rattle.std.specs.Prelude.{Bool, true, false, cond, ℕ, suc, eqb, length, take}
use mathlib.Core.List.{List, [], ◌∷◌, ◌++◌, foldl}
use Rattle.layout.specs.Memory.{same_bytes}
use Rattle.script_lines.specs.Lines.{reply_to}
use Rattle.listing.specs.Listing.{first_line, header, printed, zero_memory}

pub record State : Type 0 where
  pub line : List ℕ  -- of the line begun; of one above 64 bytes, the first 65
  pub place : ℕ  -- of that line: 0 is the first line
  pub over : Bool  -- whether the first line was broken
  pub memory : List ℕ
  pub out : List ℕ  -- what has been printed

unfoldable pub start : State
start = record { line = []; place = 0; over = false; memory = zero_memory; out = header }

-- the first line is whole
unfoldable pub first_ended : State → State
first_ended s =
    cond (same_bytes s.line first_line)
    (record { line = []; place = 1; over = false; memory = s.memory; out = s.out })
    (record { line = []; place = 0; over = true; memory = s.memory; out = s.out ++ printed 0 30 0 })

-- a later line is whole
unfoldable pub later_ended : State → State
later_ended s =
    record {
      line = [];
      place = suc s.place;
      over = false;
      memory = (reply_to s.memory s.line).after;
      out = s.out ++ printed s.place (reply_to s.memory s.line).answer (reply_to s.memory s.line).number;
    }

-- a line is whole; after a broken first line there is nothing more to do
unfoldable pub line_ended : State → State
line_ended s = cond s.over s (cond (eqb s.place 0) (first_ended s) (later_ended s))

-- one byte more
unfoldable pub fed_byte : State → ℕ → State
fed_byte s b =
    cond (eqb b 10) (line_ended s)
    (record { line = take 65 (s.line ++ (b ∷ [])); place = s.place; over = s.over; memory = s.memory; out = s.out })

-- a piece
unfoldable pub fed : State → List ℕ → State
fed s l = foldl fed_byte s l

-- the input is at its end: a line begun is whole too
unfoldable pub ended : State → State
ended s = cond (eqb (length s.line) 0) s (line_ended s)
