-- `change_log::hand_record` meets its contract. Assumes nothing.
use mathlib.Core.Path.{sym, ◌∙◌}
use Rattle.change_log.proofs.MoveLaws.{hand_yes, hand_no}
use Rattle.change_log.proofs.hand_record.Goals as goal

pub returns-then-goes : goal.returns-then-goes
returns-then-goes c = let s = c in let a = s.args in
    λ l t e. hand_yes a.log.now l a.i a.over e s.requires.i_bound t (sym c.takes-goes.ensures ∙ c.if-goes.true)

pub returns-else-goes : goal.returns-else-goes
returns-else-goes c = let s = c in let a = s.args in
    λ l t e. hand_no a.log.now l a.i a.over e s.requires.i_bound (sym c.takes-goes.ensures ∙ c.if-goes.false)
