-- `line_section::is_new` meets its contract. Assumes nothing.
use mathlib.Core.Path.{ap}
use mathlib.Core.Bool.{Bool, not}
use Rattle.line_section.proofs.is_new.Goals as goal

pub returns : goal.returns
returns c = record {
  value = ap (λ (x : Bool). not x) c.among-new.ensures;
  by_index = c.insert.ensures.by_index;
}
