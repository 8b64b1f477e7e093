-- `cycles::Arrows::link_ties` meets its contract: the lists hold the arrows before place j. Assumes nothing.
use Rattle.std.proofs.Common.{◌≡◌, ◌<◌, ℕ, length, get_or, arith, rules}
use Rattle.sets.specs.Members.{members}
use Rattle.sets.proofs.MemberLaws.{blank_words}
use Rattle.cycles.specs.Graph.{tie_in_rows, arrow_in, graph_in}
use Rattle.cycles.specs.Links.{lists_of}
use Rattle.cycles.proofs.LinkLaws.{linked_none, linked_next, linked_few, blank_room, room_kept}
use Rattle.cycles.proofs.Arrows.link_ties.Goals as goal

pub loop-j-init : goal.loop-j-init
unfolding members
loop-j-init c = let p = c.requires.1 in (blank_room _ p (search rules), linked_none _ _ p.no_heads p.no_counts (blank_words _ p.no_leaders) (blank_words _ p.no_blocked))

pub link_tie-requires : goal.link_tie-requires
link_tie-requires c = let l = c.loop-j in (omega (arith, c.loop-j-test.true), linked_few _ _ (lists_of l.self) l.invariant.1 l.invariant.0.counts)

pub loop-j-preserved : goal.loop-j-preserved
unfolding graph_in arrow_in tie_in_rows
loop-j-preserved c = let a = c.args in
    let l = c.loop-j in
    let r = l.invariant.0 in
    let small : (i : ℕ) → get_or a.labels.now i 0 < 256 = c.fits-labels in
    let within : l.j < length l.self.next = omega (arith, r.by_place) in (
      room_kept _ _ _ _ l.self c.link_tie.new.self c.link_tie.ensures r,
      linked_next (graph_in (tie_in_rows a.ties.now) a.labels.now) l.j (lists_of l.self) l.invariant.1 (lists_of c.link_tie.new.self) r.by_label within r.counts (small _) (small _) c.link_tie.ensures,
    )

pub returns : goal.returns
returns c = let l = c.loop-j in let e : l.j ≡ length c.args.ties.now = omega arith in rw e at l.invariant.1
