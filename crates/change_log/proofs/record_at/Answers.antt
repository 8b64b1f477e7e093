-- `change_log::record_at` meets its contract. Assumes nothing.
use mathlib.Core.Path.{◌∙◌}
use Rattle.change_log.proofs.LogLaws.{owner_here, entry_here, before_here}
use Rattle.change_log.proofs.record_at.Goals as goal

pub returns : goal.returns
returns c = λ q e. let a = c.args in record {
  owner = owner_here a.log.now a.i q e;
  entry = entry_here a.log.now a.i q e;
  before = λ t. c.read_u32.ensures ∙ before_here a.log.now a.i q e t;
}
