-- `line::leave` meets its contract: the set of the change alone is taken out. Assumes nothing.
use mathlib.Core.Path.{◌∙◌}
use mathlib.Core.Bool.{or-false}
use lib.Dec.{eqb}
use Rattle.sets.specs.Members.{members}
use Rattle.line.proofs.LineLaws.{only_left}
use Rattle.line.proofs.leave.Goals as goal

pub returns : goal.returns
returns c = let s = c in let a = s.args in
    let d = c.drop_all in let m = c.add in let z = c.empty in record { upper_bound = d.ensures.upper_bound; tabled = λ l q e. only_left (members m.result) a.change (λ k. m.ensures k ∙ rw (z.ensures k) (or-false (eqb k a.change))) l _ _ (d.ensures.tabled l q e) }
