-- `script_lines::name_of` meets its contract: the text is none of the names so far. Assumes nothing.
use mathlib.Core.Path.{◌≡◌}
use Rattle.script_lines.specs.Lines.{call_number}
use Rattle.script_lines.proofs.NameLaws.{place_from}
use Rattle.script_lines.proofs.name_of.Given as goal

abbrev pub invariant-loop-name : goal.invariant-loop-name
invariant-loop-name l = place_from l.name-index l.text ≡ call_number l.text
