-- `cycles::Arrows::link_arrow` meets its contract: the stores and what is inserted are what `with_arrow` says. Assumes nothing.
use Rattle.std.proofs.Common.{refl}
use Rattle.sets.specs.Members.{members}
use Rattle.cycles.specs.Links.{lists_of}
use Rattle.cycles.proofs.LinkLaws.{with_arrow_lem}
use Rattle.cycles.proofs.Arrows.link_arrow.Goals as goal

pub returns : goal.returns
unfolding members
returns c = let a = c.args in with_arrow_lem a.j a.from a.to (lists_of a.self.now) _ refl refl refl c.insert.ensures.by_index c.insert-2.ensures.by_index
