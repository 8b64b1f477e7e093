-- The call that a line asks for, and its reply. Assumes nothing.
use mathlib.Core.Path.{◌≡◌, refl}
use mathlib.Core.List.{List}
use mathlib.Core.Option.{none}
use Prim.Native.Nat.{ℕ, ◌≤◌, ◌<◌}
use lib.ListN.{length}
use borrow.Author.Tests.{le-leb, lt-leb}
use Rattle.std.specs.Prelude.{Option as Maybe, Some, None}
use Rattle.text.specs.Parts.{parted_by}
use Rattle.script_calls.specs.Fields.{readings, placed, made, call_of}
use Rattle.script_lines.specs.Lines.{numbered, fielded, line_call}

-- no call has the number 0
pub no_name : (a b c d : Maybe ℕ) → numbered 0 a b c d ≡ none
unfolding numbered call_of made placed readings
no_name None b c d = refl
no_name (Some a) None c d = refl
no_name (Some a) (Some b) None d = refl
no_name (Some a) (Some b) (Some c) None = refl
no_name (Some a) (Some b) (Some c) (Some d) = refl

-- above 64 bytes, and not
pub too_long : (l : List ℕ) → 64 < length l → line_call l ≡ none
unfolding line_call
too_long l h = rw (lt-leb (length l) 64 h)

pub not_long : (l : List ℕ) → length l ≤ 64 → line_call l ≡ fielded (parted_by 44 l)
unfolding line_call
not_long l h = rw (le-leb (length l) 64 h)
