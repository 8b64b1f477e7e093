-- `cycles::Arrows::eliminate` meets its contract: what `Eliminating` says holds of what is left. The measure is how many labels are left. Assumes nothing.
use Rattle.std.proofs.Common.{◌≡◌, refl, ap, ◌∙◌, not, ◌&&◌, eqb, ℕ, ◌<◌, length, arith}
use Rattle.sets.specs.Members.{members}
use Rattle.sets.specs.declared.ChangeSet.{ChangeSet}
use Rattle.cycles.specs.Graph.{tie_in_rows, graph_in}
use Rattle.cycles.specs.Links.{lists_of}
use Rattle.cycles.proofs.CycleLaws.{small_graph}
use Rattle.cycles.proofs.EliminationLaws.{eliminating_none, eliminating_end, eliminating_next, eliminating_less, source_removable, source_most}
use Rattle.cycles.proofs.Arrows.eliminate.Goals as goal

pub loop-v-init : goal.loop-v-init
loop-v-init c = (refl, refl, eliminating_none _ _ (lists_of c.args.self.now) c.requires.1)

pub remove_arrows-requires : goal.remove_arrows-requires
remove_arrows-requires c = let a = c.args in
    let l = c.loop-v in
    let i = l.invariant in
    let low : c.in-Some.v < 256 = omega arith in
    let most = source_most c.requires.1 c.in-Some.v low in
    rw (i.0, i.1) (
      omega (arith, c.requires.0, most),
      most,
      source_removable (graph_in (tie_in_rows a.ties.now) a.labels.now) (length a.ties.now) l.self.incoming (members l.self.left) (members l.self.blocked) i.2 c.in-Some.v c.in-Some.ensures low (lists_of a.self.now) c.requires.1,
    )

pub loop-v-smaller : goal.loop-v-smaller
loop-v-smaller c = let a = c.args in
    let l = c.loop-v in
    let low : c.in-Some.v < 256 = omega arith in
    let after = c.remove_arrows.new.self in
    let is : (k : ℕ) → members after.left k ≡ not (eqb k c.in-Some.v) && members l.self.left k = λ k. ap (λ (s : ChangeSet). members s k) c.remove_arrows.ensures.kept.left ∙ c.take_out.ensures k in
    eliminating_less (graph_in (tie_in_rows a.ties.now) a.labels.now) (length a.ties.now) l.self.incoming (members l.self.left) (members l.self.blocked) l.invariant.2 c.in-Some.v c.in-Some.ensures low (members after.left) is

pub loop-v-preserved : goal.loop-v-preserved
loop-v-preserved c = let a = c.args in
    let l = c.loop-v in
    let i = l.invariant in
    let low : c.in-Some.v < 256 = omega arith in
    let r = c.remove_arrows in
    let after = r.new.self in
    let is : (k : ℕ) → members after.left k ≡ not (eqb k c.in-Some.v) && members l.self.left k = λ k. ap (λ (s : ChangeSet). members s k) r.ensures.kept.left ∙ c.take_out.ensures k in (
      r.ensures.kept.heads ∙ i.0,
      r.ensures.kept.next ∙ i.1,
      eliminating_next (graph_in (tie_in_rows a.ties.now) a.labels.now) (length a.ties.now) l.self.incoming (members l.self.left) (members l.self.blocked) i.2 c.in-Some.v c.in-Some.ensures low (members after.left) is
          (lists_of a.self.now) c.requires.1 after.incoming (members after.blocked) (rw i.0 at r.ensures.removed),
    )

pub returns : goal.returns
returns c = let a = c.args in
    let l = c.loop-v in
    eliminating_end (graph_in (tie_in_rows a.ties.now) a.labels.now) (length a.ties.now) l.self.incoming (members l.self.left) (members l.self.blocked) l.invariant.2
    (small_graph (tie_in_rows a.ties.now) a.labels.now c.fits-labels (length a.ties.now)) 256 c.in_default.ensures (omega arith) c.is_empty.result c.is_empty.ensures
