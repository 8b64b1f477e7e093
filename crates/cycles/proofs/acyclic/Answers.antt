-- `cycles::acyclic` meets its contract: no arrow stands, or elimination over the groups' labels answers. Assumes nothing.
use Rattle.std.proofs.Common.{sym, ◌∙◌, length, arith}
use Rattle.cycles.specs.Graph.{tie_in_rows}
use Rattle.cycles.proofs.RowLaws.{TieRows, tie_rows}
use Rattle.cycles.proofs.TieGraph.{acyclic_labels, acyclic_none}
use Rattle.cycles.proofs.acyclic.Goals as goal

pub returns-then-has_arrow : goal.returns-then-has_arrow
returns-then-has_arrow c = λ ts n len is ends.
    let a = c.args in
    let rows = c.as_chunks.result.0.now in
    let r : TieRows ts a.count rows = tie_rows a.ties.now a.count rows c.requires.count_in_bounds c.as_chunks.ensures.front ts (λ i. omega (arith, c.type_inv.ties i)) is in
    acyclic_labels (tie_in_rows rows) ts (length rows) (len ∙ sym r.count) r.ties r.leaders r.followers c.label_groups.new.labels c.arrows_acyclic.result c.label_groups.ensures c.arrows_acyclic.ensures n ends

pub returns : goal.returns
returns c = λ ts n len is ends.
    let a = c.args in
    let rows = c.as_chunks.result.0.now in
    let r : TieRows ts a.count rows = tie_rows a.ties.now a.count rows c.requires.count_in_bounds c.as_chunks.ensures.front ts (λ i. omega (arith, c.type_inv.ties i)) is in
    acyclic_none (tie_in_rows rows) ts (length rows) (len ∙ sym r.count) r.ties r.leaders r.followers c.has_arrow.result c.has_arrow.ensures c.if-has_arrow.false n ends
