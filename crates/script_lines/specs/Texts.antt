-- What the code's names are in a script, and the call that a name with four fields asks for. Assumes nothing.
use Rattle.std.specs.Prelude.{List, ℕ, Option, Some, None}
use Rattle.std.proofs.Math.Option as math
use Rattle.rules.specs.Calls.{Call}
use Rattle.text.specs.Decimal.{ascii}
use Rattle.script_calls.specs.Fields.{call_with}
use Rattle.script_calls.specs.declared.Name.{Name}
use Rattle.script_calls.specs.declared.Name.TheVariants as name
use Rattle.script_calls.specs.Meant.{number_of}

-- its text
abbrev pub text_of : Name → List ℕ
unfolding ascii
text_of name.Open = ascii "open"
text_of name.Initiate = ascii "initiate"
text_of name.Begin = ascii "begin"
text_of name.Complete = ascii "complete"
text_of name.Lock = ascii "lock"
text_of name.Read = ascii "read"
text_of name.Write = ascii "write"
text_of name.Permit = ascii "permit"
text_of name.Delegate = ascii "delegate"
text_of name.Depend = ascii "depend"
text_of name.Commit = ascii "commit"
text_of name.Abort = ascii "abort"
text_of name.Status = ascii "status"
text_of name.Parent = ascii "parent"
text_of name.Value = ascii "value"

-- its call number; 0 where there is no name
abbrev pub number_if : Option Name → ℕ
number_if None = 0
number_if (Some n) = number_of n

-- the call that a name asks for with four fields; none where there is no name
abbrev pub asked : Option (Name × List ℕ) → math.Option Call
asked None = math.none
asked (Some (n, fields)) = call_with (number_of n) fields
