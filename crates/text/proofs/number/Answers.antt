-- `text::number` meets its contract: what is none is refused step by step. Assumes nothing.
use mathlib.Core.Path.{◌≡◌, sym, ◌∙◌}
use Prim.Native.Nat.{◌<◌, ◌≤◌}
use native.Mathlib.Omega.{arith}
use lib.ListN.{length, get_or}
use Rattle.text.proofs.DecimalLaws.{number_empty, number-long, number_zero, not_leading, number-digits}
use Rattle.text.proofs.number.Goals as goal

pub returns-then-long : goal.returns-then-long
returns-then-long c = sym (number-long c.args.l.now (omega arith))

pub returns-in-empty : goal.returns-in-empty
returns-in-empty c = sym (number_empty c.args.l.now (omega arith))

pub returns-in-empty-2 : goal.returns-in-empty-2
returns-in-empty-2 c = sym (number_zero c.args.l.now (omega arith) (omega arith))

pub returns-in_default : goal.returns-in_default
returns-in_default c =
    let l = c.args.l.now in
    let some : 1 ≤ length l = grind arith in
    let plain : 1 < length l → get_or l 0 0 ≡ 48 → ⊥ = grind arith in
    c.digits_value.ensures ∙ sym (number-digits l some (omega arith) (not_leading l plain))
