-- `text::digits_value` meets its contract: the bytes so far are digits that say the value. Assumes nothing.
use Rattle.text.proofs.DecimalLaws.{Reading}
use Rattle.text.proofs.digits_value.Given as goal

abbrev pub invariant-loop-b : goal.invariant-loop-b
invariant-loop-b l = Reading l.l l.value l.b-index
