-- `cycles::Arrows::link_tie` meets its contract: an arrow is linked, and another tie is passed over. Assumes nothing.
use Rattle.std.proofs.Common.{get_or}
use Rattle.rules.specs.Ties.{is_arrow}
use Rattle.cycles.specs.Links.{lists_of}
use Rattle.cycles.proofs.LinkLaws.{tie_linked, tie_passed}
use Rattle.cycles.proofs.Arrows.link_tie.Goals as goal

pub returns-then-linked : goal.returns-then-linked
returns-then-linked c = tie_linked _ (is_arrow (get_or c.args.tie 0 0)) _ _ _ (lists_of c.args.self.now) (lists_of c.link_arrow.new.self) c.if-linked.true (cc) c.link_arrow.ensures

pub returns-else-linked : goal.returns-else-linked
returns-else-linked c = tie_passed _ (is_arrow (get_or c.args.tie 0 0)) _ _ _ _ c.if-linked.false (cc)
