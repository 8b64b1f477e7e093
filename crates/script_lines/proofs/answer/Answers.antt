-- `script_lines::answer` meets its contract. Assumes nothing.
use mathlib.Core.Path.{◌≡◌}
use mathlib.Core.Option.{none}
use Rattle.script_calls.proofs.MakeLaws.{broken}
use Rattle.script_lines.specs.Lines.{line_call, reply_to}
use Rattle.script_lines.proofs.answer.Goals as goal

pub returns-in-None : goal.returns-in-None
unfolding reply_to
returns-in-None c = let e : none ≡ line_call c.args.line.now = c.in-None.ensures in rw (← e) (broken c.args.memory.now _ c.unchanged.ensures)
