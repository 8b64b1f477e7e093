-- `line::front` meets its contract. Assumes nothing.
use native.Mathlib.Omega.{arith}
use Rattle.line.proofs.LineLaws.{first_found, first_missed}
use Rattle.line.proofs.front.Goals as goal

pub returns : goal.returns
returns c = let a = c.args in let f = c.in_ok-place.ensures in
    λ l q e. first_found a.line.now l e a.count q c.requires.count_bound a.entry c.in_ok-place.place f.upper_bound f.found f.some

pub returns-in_err-place : goal.returns-in_err-place
returns-in_err-place c = let a = c.args in let f = c.in_err-place.ensures in
    λ l q e. rw c.from_residual.ensures (first_missed a.line.now l e a.count q c.requires.count_bound a.entry a.count f.upper_bound f.found (omega arith))
