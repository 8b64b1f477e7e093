-- `sections::values` meets its contract. Assumes nothing.
use mathlib.Core.Path.{◌∙◌, sym}
use Rattle.sections.proofs.PlaceLaws.{values-sound}
use Rattle.sections.proofs.values.Goals as goal

pub returns : goal.returns
returns c = let a = c.args in
    let s = values-sound a.values.now (λ i. (c.type_inv.values i).fits) c.requires.values_len a.entries in
    (λ e. s.0 (sym c.all_zero.ensures ∙ e), λ v. c.all_zero.ensures ∙ s.1 v)
