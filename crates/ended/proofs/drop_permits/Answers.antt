-- `ended::drop_permits` meets its contract. Assumes nothing.
use mathlib.Core.Path.{sym}
use Rattle.layout.proofs.LentLaws.{permits_back}
use Rattle.ended.proofs.drop_permits.Goals as goal

pub returns : goal.returns
returns c = let left = c.drop_ended-left in
    λ W n e. permits_back W e (left.ensures.tabled W.permits (sym n)) c.store.ensures
