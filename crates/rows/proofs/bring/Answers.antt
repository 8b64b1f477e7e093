-- `rows::bring` meets its contract: std's copy within a slice, said as a part put in another's place. Assumes nothing.
use mathlib.Core.Path.{◌≡◌, sym, ap, ◌∙◌}
use mathlib.Core.List.{List, ◌++◌, append_assoc}
use Prim.Native.Nat.{ℕ, ◌+◌, ◌-◌}
use native.Mathlib.Omega.{arith}
use lib.ListN.{length, take, drop}
use lib.Seq.{drop-drop}
use Rattle.cells.specs.Part.{part, patch}
use Rattle.cells.proofs.PartLaws.{length_part}
use Rattle.rows.proofs.bring.Goals as goal

pub returns : goal.returns
unfolding part patch
returns c =
    let a = c.args in
    let l = a.s.now in
    let n : a.from + a.len - a.from ≡ a.len = omega arith in
    let size : length (part l a.from a.len) ≡ a.len = length_part l a.from a.len c.requires.in_bounds in
    c.copy_within.ensures.after
    ∙ ap (λ (k : ℕ). (take a.to l ++ take k (drop a.from l)) ++ drop (a.to + k) l) n
    ∙ append_assoc (take a.to l) (part l a.from a.len) (drop (a.to + a.len) l)
    ∙ ap (λ (t : List ℕ). take a.to l ++ (part l a.from a.len ++ t)) (sym (ap (λ (k : ℕ). drop k (drop a.to l)) size ∙ drop-drop a.len a.to l))
