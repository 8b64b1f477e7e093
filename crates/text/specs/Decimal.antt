-- docs/RULES.md, "The script program": numbers in decimal, read and printed. Text is a list of bytes. Assumes nothing.
use Rattle.std.specs.Prelude.{Bool, false, not, cond, ◌&&◌, List, [], ◌∷◌, ℕ, zero, suc, ◌+◌, ◌-◌, ◌*◌, ◌/◌, ◌%◌, eqb, leb, length, Option, Some, None}
use Prim.Native.Char.{code}
use Prim.Native.String.{String, [] as empty, ◌∷◌ as ◌then◌}
use Rattle.rules.specs.Base.{all}

-- text written out, as its bytes (ASCII)
unfoldable pub ascii : String → List ℕ
ascii empty = []
ascii (c then s) = code c ∷ ascii s

unfoldable pub is_digit : ℕ → Bool
is_digit b = leb 48 b && leb b 57

-- what digits say that follow a number already read
unfoldable pub value_after : ℕ → List ℕ → ℕ
value_after n [] = n
value_after n (b ∷ l) = value_after (10 * n + (b - 48)) l

-- "no leading zero but in 0 itself"
unfoldable pub leading_zero : List ℕ → Bool
leading_zero [] = false
leading_zero (b ∷ l) = eqb b 48 && not (eqb (length l) 0)

-- "the numbers of 1 to 10 digits, none above 4,294,967,295, no leading zero but in 0 itself"
unfoldable pub is_number : List ℕ → Bool
is_number l = all is_digit l && leb 1 (length l) && leb (length l) 10 && not (leading_zero l) && leb (value_after 0 l) 4294967295

-- the number that a text is, if it is one
unfoldable pub number : List ℕ → Option ℕ
number l = cond (is_number l) (Some (value_after 0 l)) None

-- the digits of n in front of other bytes, none for 0; there are no more than k
unfoldable pub digits_before : ℕ → ℕ → List ℕ → List ℕ
digits_before zero n after = after
digits_before (suc k) n after = cond (eqb n 0) after (digits_before k (n / 10) ((48 + n % 10) ∷ after))

-- a number as it is printed in front of other bytes: its last digit, and before it those of a tenth of it (n of them are always enough)
unfoldable pub shown_before : ℕ → List ℕ → List ℕ
shown_before n after = digits_before n (n / 10) ((48 + n % 10) ∷ after)
