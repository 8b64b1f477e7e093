-- `cycles::Arrows::remove_arrows` meets its contract: the arrows from place e on are gone. The measure is e, which falls from an arrow to the one before. Assumes nothing.
use Rattle.std.proofs.Common.{◌≡◌, refl, ap, ◌∙◌, ◌-◌, List, ℕ, get_or, arith, rules}
use Rattle.sets.specs.Members.{members}
use Rattle.cycles.specs.Graph.{tie_in_rows, arrow_in, graph_in}
use Rattle.cycles.proofs.RemovalLaws.{removing_none, removing_all, removing_pos, removing_next}
use Rattle.cycles.proofs.Arrows.remove_arrows.Goals as goal

pub loop-e-init : goal.loop-e-init
loop-e-init c = (record { heads = refl; next = refl; left = refl }, removing_none _ _ _ _ _ _ c.requires.2 (search rules))

pub remove_arrow-requires : goal.remove_arrow-requires
unfolding graph_in arrow_in tie_in_rows
remove_arrow-requires c = let a = c.args in
    let l = c.loop-e in
    removing_pos (graph_in (tie_in_rows a.ties.now) a.labels.now) a.v (get_or a.self.now.heads a.v 0) a.self.now.next a.self.now.incoming (members a.self.now.blocked) c.requires.2
    l.self.incoming (members l.self.blocked) l.e (l.e - 1) (omega arith) l.invariant.1 _ refl (c.fits-labels _)

pub returns : goal.returns
returns c = let l = c.loop-e in record { kept = l.invariant.0; removed = removing_all l.invariant.1 (omega arith) }

pub loop-e-smaller : goal.loop-e-smaller
unfolding graph_in arrow_in tie_in_rows
loop-e-smaller c = let a = c.args in
    let l = c.loop-e in
    let g = c.remove_arrow in
    let same : get_or g.new.self.next (l.e - 1) 0 ≡ get_or a.self.now.next (l.e - 1) 0 = ap (λ (s : List ℕ). get_or s (l.e - 1) 0) (g.ensures.kept.next ∙ l.invariant.0.next) in
    (removing_next (graph_in (tie_in_rows a.ties.now) a.labels.now) a.v (get_or a.self.now.heads a.v 0) a.self.now.next a.self.now.incoming (members a.self.now.blocked) c.requires.2
    l.self.incoming (members l.self.blocked) l.e (l.e - 1) (omega arith) l.invariant.1 _ refl (c.fits-labels _) g.new.self.incoming (members g.new.self.blocked) _ g.ensures.incoming g.ensures.blocked same).1

pub loop-e-preserved : goal.loop-e-preserved
unfolding graph_in arrow_in tie_in_rows
loop-e-preserved c = let a = c.args in
    let l = c.loop-e in
    let g = c.remove_arrow in
    let k = l.invariant.0 in
    let d = g.ensures.kept in
    let same : get_or g.new.self.next (l.e - 1) 0 ≡ get_or a.self.now.next (l.e - 1) 0 = ap (λ (s : List ℕ). get_or s (l.e - 1) 0) (d.next ∙ k.next) in (
      record { heads = d.heads ∙ k.heads; next = d.next ∙ k.next; left = d.left ∙ k.left },
      (removing_next (graph_in (tie_in_rows a.ties.now) a.labels.now) a.v (get_or a.self.now.heads a.v 0) a.self.now.next a.self.now.incoming (members a.self.now.blocked) c.requires.2
          l.self.incoming (members l.self.blocked) l.e (l.e - 1) (omega arith) l.invariant.1 _ refl (c.fits-labels _) g.new.self.incoming (members g.new.self.blocked) _ g.ensures.incoming g.ensures.blocked same).0,
    )
