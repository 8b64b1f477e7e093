-- `row_sections::permits` meets its contract. Assumes nothing.
use borrow.Author.Rules.{rules}
use Rattle.rules.specs.Sound.{permit_sound}
use Rattle.layout.specs.Records.{permit_at}
use Rattle.sets.specs.Members.{members}
use Rattle.cells.proofs.ZeroLaws.{places_failed, places_passed}
use Rattle.row_sections.specs.Fits.{permit_fits}
use Rattle.row_sections.proofs.TableLaws.{permits-sound}
use Rattle.row_sections.proofs.permits.Goals as goal

pub returns-then-not-standing : goal.returns-then-not-standing
unfolding members permit_fits
returns-then-not-standing c = let a = c.args in
    let p = c.requires in
    places_failed (permits-sound a.permits.now (λ i. (c.type_inv.permits i).fits) p.permits_len a.count a.entries (members a.live) p.count_bound) (c.standing.ensures (λ j. permit_sound a.entries (members a.live) (permit_at a.permits.now j)) (λ j r h q. search rules)) c.if-not-standing.true-raw

pub returns : goal.returns
unfolding members permit_fits
returns c = let a = c.args in
    let p = c.requires in
    places_passed (permits-sound a.permits.now (λ i. (c.type_inv.permits i).fits) p.permits_len a.count a.entries (members a.live) p.count_bound) (c.standing.ensures (λ j. permit_sound a.entries (members a.live) (permit_at a.permits.now j)) (λ j r h q. search rules)) c.if-not-standing.false-raw c.all_zero.ensures
