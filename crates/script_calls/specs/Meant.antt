-- What the code's names stand for. Assumes nothing.
use Rattle.std.specs.Prelude.{ℕ}
use Rattle.script_calls.specs.declared.Name.{Name}
use Rattle.script_calls.specs.declared.Name.TheVariants as name

-- the number of the call with a name, its place in "The calls"
abbrev pub number_of : Name → ℕ
number_of name.Open = 1
number_of name.Initiate = 2
number_of name.Begin = 3
number_of name.Complete = 4
number_of name.Lock = 5
number_of name.Read = 6
number_of name.Write = 7
number_of name.Permit = 8
number_of name.Delegate = 9
number_of name.Depend = 10
number_of name.Commit = 11
number_of name.Abort = 12
number_of name.Status = 13
number_of name.Parent = 14
number_of name.Value = 15
