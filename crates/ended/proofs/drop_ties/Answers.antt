-- `ended::drop_ties` meets its contract. Assumes nothing.
use mathlib.Core.Path.{sym}
use Rattle.layout.proofs.LentLaws.{ties_back}
use Rattle.ended.proofs.drop_ties.Goals as goal

pub returns : goal.returns
returns c = let left = c.drop_ended-left in
    λ W n e. ties_back W e (left.ensures.tabled W.ties (sym n)) c.store.ensures
