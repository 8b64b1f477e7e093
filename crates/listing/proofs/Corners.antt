-- Single lines of a script: the call that each asks for, or none. Assumes nothing.
use mathlib.Core.Path.{◌≡◌, refl}
use mathlib.Core.List.{List}
use mathlib.Core.Option.{none, some}
use Prim.Native.Nat.{ℕ, ◌<◌}
use borrow.Author.Tests.{lt-leb}
use lib.ListN.{length}
use Rattle.rules.specs.Base.{all}
use Rattle.rules.specs.Calls.{Open, Write}
use Rattle.layout.specs.Memory.{same_bytes, hand_back}
use Rattle.text.specs.Decimal.{ascii, is_digit, value_after, leading_zero, is_number, number}
use Rattle.text.specs.Parts.{in_front, parted_by}
use Rattle.script_calls.specs.Fields.{readings, placed, made, call_of, reply_of}
use Rattle.script_lines.specs.Lines.{names, place_among, call_number, numbered, fielded, line_call, reply_to}

-- all that a line's call is read with
unfoldable pub reading : Unit {0}
unfolding ascii is_digit all value_after leading_zero is_number number in_front parted_by same_bytes names place_among call_number readings placed made call_of numbered fielded line_call
reading = tt

-- "no leading zero but in 0 itself"
pub leading_zero_lem : line_call (ascii "open,02,0,0,0") ≡ none
unfolding reading
leading_zero_lem = refl

pub zero_itself : line_call (ascii "open,0,0,0,0") ≡ some (Open 0)
unfolding reading
zero_itself = refl

-- "parted by single commas": an empty field, a fifth comma, a field too few
pub empty_field : line_call (ascii "open,2,,0,0") ≡ none
unfolding reading
empty_field = refl

pub fifth_comma : line_call (ascii "open,2,0,0,0,") ≡ none
unfolding reading
fifth_comma = refl

pub three_fields : line_call (ascii "open,2,0,0") ≡ none
unfolding reading
three_fields = refl

-- "unused fields must be 0, or the line is broken"
pub unused_field : line_call (ascii "open,2,0,0,1") ≡ none
unfolding reading
unused_field = refl

-- a number is digits alone: a space, a carriage return, a sign
pub space : line_call (ascii "open, 2,0,0,0") ≡ none
unfolding reading
space = refl

pub carriage_return : line_call (ascii "open,2,0,0,0\r") ≡ none
unfolding reading
carriage_return = refl

pub sign : line_call (ascii "open,+2,0,0,0") ≡ none
unfolding reading
sign = refl

-- "none above 4,294,967,295"
pub largest_number : line_call (ascii "write,1,0,4294967295,0") ≡ some (Write 1 0 4294967295)
unfolding reading
largest_number = refl

pub above_largest : line_call (ascii "write,1,0,4294967296,0") ≡ none
unfolding reading
above_largest = refl

-- a name that no call has, one in other letters, and an empty line
pub unknown_name : line_call (ascii "close,2,0,0,0") ≡ none
unfolding reading
unknown_name = refl

pub upper_case : line_call (ascii "OPEN,2,0,0,0") ≡ none
unfolding reading
upper_case = refl

pub empty_line : line_call (ascii "") ≡ none
unfolding reading
empty_line = refl

-- "A broken line, or one above 64 bytes, prints answer 30 and number 0 and does nothing"
pub above_64 : (l : List ℕ) → 64 < length l → line_call l ≡ none
unfolding line_call
above_64 l h = rw (lt-leb (length l) 64 h)

pub broken_line : (mem l : List ℕ) → line_call l ≡ none → reply_to mem l ≡ hand_back mem 30
unfolding reply_to reply_of
broken_line mem l e = rw e
