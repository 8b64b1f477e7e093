-- `text::digits_value` meets its contract: the bytes so far are digits that say the value. Assumes nothing.
use mathlib.Core.Path.{sym, ◌∙◌}
use native.Mathlib.Omega.{arith}
use Rattle.std.proofs.lemmas.Bool.Decides.{nat_tests}
use Rattle.text.proofs.DecimalLaws.{reading_none, reading_other, reading_next, reading_all}
use Rattle.text.specs.Decimal.{is_digit}
use Rattle.text.proofs.digits_value.Goals as goal

pub loop-b-init : goal.loop-b-init
loop-b-init c = reading_none c.args.l.now

pub returns-then-not-digit : goal.returns-then-not-digit
unfolding is_digit
returns-then-not-digit c = rw (reading_other c.loop-b.invariant (omega arith) (sym c.is_ascii_digit-digit.ensures.value ∙ c.if-not-digit.true))

pub loop-b-preserved : goal.loop-b-preserved
unfolding is_digit
loop-b-preserved c = rw c.from.ensures (reading_next c.loop-b.invariant (omega arith) (sym c.is_ascii_digit-digit.ensures.value ∙ c.if-not-digit.false))

pub returns : goal.returns
returns c = let (e, v) = reading_all c.loop-b.invariant (omega arith) in rw (e, ← v) (grind (arith, nat_tests))
