-- `cells::clear` meets its contract. Assumes nothing.
use Prim.Native.Nat.{◌-◌}
use lib.ListN.{length-replicate}
use borrow.Author.Rules.{rules}
use Rattle.cells.proofs.PartLaws.{put_mid-patch}
use Rattle.cells.proofs.clear.Goals as goal

pub returns : goal.returns
returns c = let a = c.args in put_mid-patch a.from _ a.s.now _ _ (search rules) (length-replicate (a.to - a.from) 0)
