-- `ended::drop_line` meets its contract. Assumes nothing.
use mathlib.Core.Path.{sym}
use Rattle.layout.proofs.LentLaws.{line_back}
use Rattle.ended.proofs.drop_line.Goals as goal

pub returns : goal.returns
returns c = let left = c.drop_all-left in
    λ W n e. line_back W e (left.ensures.tabled W.line (sym n)) c.store.ensures
