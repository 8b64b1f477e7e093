-- The whole case of docs/RULES.md and other whole inputs: what is printed. Assumes nothing.
use mathlib.Core.Path.{◌≡◌, refl, ap, ◌∙◌}
use mathlib.Core.Bool.{true}
use mathlib.Core.List.{List, [], ◌∷◌, ◌++◌, map}
use mathlib.Core.Option.{some}
use Prim.Native.Nat.{ℕ, suc}
use native.Mathlib.Omega.{arith}
use lib.Dec.{leb}
use lib.ListN.{length, replicate, length-replicate}
use borrow.Author.Tests.{le-leb}
use Rattle.rules.specs.Calls.{Call, Open, Initiate, Begin, Lock, Write, Depend, Abort, Value}
use Rattle.rules.specs.Lists.{answers}
use Rattle.layout.specs.Codec.{window_size}
use Rattle.layout.specs.Memory.{same_bytes, long, hand_back, perform}
use Rattle.layout.proofs.Cases.{whole_case_on_memory}
use Rattle.text.specs.Decimal.{ascii, digits_before, shown_before}
use Rattle.text.specs.Parts.{in_front, lines}
use Rattle.script_calls.specs.Fields.{reply_of}
use Rattle.script_lines.specs.Lines.{line_call, reply_to}
use Rattle.listing.specs.Listing.{first_line, header, printed, zero_memory, replies, answered, listing}
use Rattle.listing.proofs.Corners.{reading}

-- answers and second numbers as they are printed, from a place on
shown : ℕ → List (ℕ × ℕ) → List ℕ
shown p [] = []
shown p (a ∷ l) = printed p a.0 a.1 ++ shown (suc p) l

-- lines that are all calls get what the calls get
replies_calls : (p : ℕ) (mem : List ℕ) (ls : List (List ℕ)) (cs : List Call) → map line_call ls ≡ map some cs → replies p mem ls ≡ shown p (answers perform mem cs)
unfolding shown answers replies reply_to reply_of
replies_calls p mem [] [] e = refl
replies_calls p mem [] (c ∷ cs) e = cc
replies_calls p mem (l ∷ ls) [] e = cc
replies_calls p mem (l ∷ ls) (c ∷ cs) e =
    let this : line_call l ≡ some c = cc in
    let rest : map line_call ls ≡ map some cs = cc in
    rw this (ap (λ (r : List ℕ). printed p (perform mem c).answer (perform mem c).number ++ r) (replies_calls (suc p) (perform mem c).after ls cs rest))

zeros_long : (n : ℕ) → leb n (length (replicate {A = ℕ} n 0)) ≡ true
zeros_long n = le-leb n (length (replicate {A = ℕ} n 0)) (omega (arith, length-replicate {A = ℕ} n 0))

long_zero : long zero_memory ≡ true
unfolding long zero_memory
long_zero = zeros_long window_size

-- a script whose first line is right
first_right : (ls : List (List ℕ)) → answered (first_line ∷ ls) ≡ replies 1 zero_memory ls
unfolding answered same_bytes first_line ascii
first_right ls = refl

-- WHOLE CASE: the input, what is printed, the input's lines and the calls that they are
pub script : List ℕ
script = ascii "call,a,b,c,d\nopen,2,0,0,0\ninitiate,0,0,0,0\ninitiate,0,0,0,0\nbegin,1,0,0,0\nlock,1,0,2,0\nwrite,1,0,7,0\ndepend,3,1,2,0\nabort,2,0,0,0\nvalue,0,0,0,0\n"

pub output : List ℕ
output = ascii "line,answer,number\n1,0,0\n2,0,1\n3,0,2\n4,0,0\n5,0,0\n6,0,0\n7,0,0\n8,0,2\n9,0,0\n"

call_lines : List (List ℕ)
call_lines =
    ascii "open,2,0,0,0" ∷ ascii "initiate,0,0,0,0" ∷ ascii "initiate,0,0,0,0" ∷ ascii "begin,1,0,0,0" ∷ ascii "lock,1,0,2,0" ∷ ascii "write,1,0,7,0"
    ∷ ascii "depend,3,1,2,0" ∷ ascii "abort,2,0,0,0" ∷ ascii "value,0,0,0,0" ∷ []

script_lines : lines script ≡ first_line ∷ call_lines
unfolding script call_lines first_line ascii in_front lines
script_lines = refl

calls : List Call
calls = Open 2 ∷ Initiate 0 ∷ Initiate 0 ∷ Begin 1 ∷ Lock 1 0 2 ∷ Write 1 0 7 ∷ Depend 3 1 2 ∷ Abort 2 ∷ Value 0 ∷ []

lines_calls : map line_call call_lines ≡ map some calls
unfolding call_lines calls reading
lines_calls = refl

calls_answers : (mem : List ℕ) → long mem ≡ true
    → shown 1 (answers perform mem calls) ≡ shown 1 ((0, 0) ∷ (0, 1) ∷ (0, 2) ∷ (0, 0) ∷ (0, 0) ∷ (0, 0) ∷ (0, 0) ∷ (0, 2) ∷ (0, 0) ∷ [])
unfolding calls
calls_answers mem enough = ap (shown 1) (whole_case_on_memory mem enough)

answers-shown : header ++ shown 1 ((0, 0) ∷ (0, 1) ∷ (0, 2) ∷ (0, 0) ∷ (0, 0) ∷ (0, 0) ∷ (0, 0) ∷ (0, 2) ∷ (0, 0) ∷ []) ≡ output
unfolding output shown printed digits_before shown_before header ascii
answers-shown = refl

-- "Whole case"
pub whole_case : listing script ≡ output
unfolding listing
whole_case =
    ap (λ (ls : List (List ℕ)). header ++ answered ls) script_lines
    ∙ ap (λ (r : List ℕ). header ++ r) (first_right call_lines ∙ replies_calls 1 zero_memory call_lines calls lines_calls ∙ calls_answers zero_memory long_zero)
    ∙ answers-shown

-- "empty input prints the header only"
pub empty_input : listing [] ≡ ascii "line,answer,number\n"
unfolding listing answered lines header ascii
empty_input = refl

-- "The last newline may be absent"
pub first_line_alone : listing (ascii "call,a,b,c,d") ≡ ascii "line,answer,number\n"
unfolding listing answered replies lines in_front header ascii first_line same_bytes
first_line_alone = refl

pub first_line-ended : listing (ascii "call,a,b,c,d\n") ≡ ascii "line,answer,number\n"
unfolding listing answered replies lines in_front header ascii first_line same_bytes
first_line-ended = refl

-- "After a broken first line it prints the header, then 0,30,0, and ends": an empty one, and one that is a call
pub newline_alone : listing (ascii "\n") ≡ ascii "line,answer,number\n0,30,0\n"
unfolding listing answered replies lines in_front header ascii first_line same_bytes printed digits_before shown_before
newline_alone = refl

pub call-first : listing (ascii "open,2,0,0,0\nvalue,0,0,0,0\n") ≡ ascii "line,answer,number\n0,30,0\n"
unfolding listing answered replies lines in_front header ascii first_line same_bytes printed digits_before shown_before
call-first = refl

-- "broken ones counted"
pub broken_counted : listing (ascii "call,a,b,c,d\nclose,2,0,0,0\n\nopen,02,0,0,0") ≡ ascii "line,answer,number\n1,30,0\n2,30,0\n3,30,0\n"
unfolding listing answered replies lines header first_line printed digits_before shown_before reply_to reply_of hand_back reading
broken_counted = refl
