-- `change_log::hand_over` meets its contract: the records before the next went over. Assumes nothing.
use mathlib.Core.Path.{◌≡◌}
use mathlib.Core.List.{List}
use lib.ListN.{length}
use Rattle.rules.specs.Window.{LogRecord}
use Rattle.rules.specs.Effects.{moved_record}
use Rattle.layout.specs.Codec.{log_section}
use Rattle.scope.specs.Entries.{entries_of}
use Rattle.change_log.proofs.MoveLaws.{first_moved}
use Rattle.change_log.proofs.hand_over.Given as goal

abbrev pub invariant-loop-next : goal.invariant-loop-next
invariant-loop-next l = (r : List LogRecord) → length r ≡ l.count → l.initial.log ≡ log_section r → l.log ≡ log_section (first_moved (moved_record l.over.from l.over.to (entries_of l.over.scope)) l.next r)
