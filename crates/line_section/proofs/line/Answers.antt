-- `line_section::line` meets its contract: nobody was seen before the walk. Assumes nothing.
use Rattle.sets.specs.Members.{members}
use Rattle.cells.proofs.ZeroLaws.{places_failed, places_passed}
use Rattle.line_section.proofs.LineLaws.{line-sound}
use Rattle.line_section.proofs.line.Goals as goal

pub returns-then-not-standing : goal.returns-then-not-standing
unfolding members
returns-then-not-standing c = λ st pa is.
    let a = c.args in
    let p = c.requires in
    places_failed (line-sound a.line.now (λ i. (c.type_inv.line i).fits) p.line_len a.count a.entries p.count_bound a.changes.now st pa is) (c.standing.ensures c.empty-nobody.ensures) c.if-not-standing.true-raw

pub returns : goal.returns
unfolding members
returns c = λ st pa is.
    let a = c.args in
    let p = c.requires in
    places_passed (line-sound a.line.now (λ i. (c.type_inv.line i).fits) p.line_len a.count a.entries p.count_bound a.changes.now st pa is) (c.standing.ensures c.empty-nobody.ensures) c.if-not-standing.false-raw c.all_zero.ensures
