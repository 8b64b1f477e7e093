-- `line::elsewhere` meets its contract. Assumes nothing.
use native.Mathlib.Omega.{arith}
use Rattle.line.proofs.LineLaws.{elsewhere_found, elsewhere_missed}
use Rattle.line.proofs.elsewhere.Goals as goal

pub returns-in-Some : goal.returns-in-Some
returns-in-Some c = let a = c.args in let f = c.in-Some.ensures in
    λ l q e d. elsewhere_found a.line.now l e a.count q c.requires.count_bound a.change c.in-Some.place f.upper_bound f.found f.some a.entry d

pub returns-in-None : goal.returns-in-None
returns-in-None c = let a = c.args in let f = c.in-None.ensures in
    λ l q e d. elsewhere_missed a.line.now l e a.count q c.requires.count_bound a.change a.count f.upper_bound f.found (omega arith) a.entry
