-- `cells::write_u32` meets its contract. Assumes nothing.
use mathlib.Core.Path.{◌∙◌, ap}
use Rattle.cells.specs.Part.{patch}
use Rattle.cells.proofs.NumLaws.{to_le}
use Rattle.cells.proofs.write_u32.Goals as goal

pub returns : goal.returns
returns c = let a = c.args in c.put.ensures ∙ ap (patch a.s.now a.at) (c.to_le_bytes.ensures ∙ to_le 4 a.v)
