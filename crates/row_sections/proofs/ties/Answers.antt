-- `row_sections::ties` meets its contract. Assumes nothing.
use mathlib.Core.Bool.{◌&&◌}
use Prim.Native.Nat.{◌+◌, ◌*◌}
use lib.Dec.{eqb}
use lib.ListN.{get_or}
use borrow.Author.Rules.{rules}
use Rattle.rules.specs.Sound.{tie_sound}
use Rattle.layout.specs.Records.{tie_at}
use Rattle.sets.specs.Members.{members}
use Rattle.cells.proofs.ZeroLaws.{places_failed, places_passed}
use Rattle.row_sections.specs.Fits.{tie_fits}
use Rattle.row_sections.proofs.TableLaws.{ties-sound}
use Rattle.row_sections.proofs.ties.Goals as goal

pub returns-then-not-standing : goal.returns-then-not-standing
unfolding members tie_fits
returns-then-not-standing c = let a = c.args in
    let p = c.requires in
    places_failed (ties-sound a.ties.now (λ i. (c.type_inv.ties i).fits) p.ties_len a.count (members a.live) p.count_bound) (c.standing.ensures (λ j. tie_sound (members a.live) (tie_at a.ties.now j) && eqb (get_or a.ties.now (j * 4 + 3) 0) 0) (λ j r h q. search rules)) c.if-not-standing.true-raw

pub returns : goal.returns
unfolding members tie_fits
returns c = let a = c.args in
    let p = c.requires in
    places_passed (ties-sound a.ties.now (λ i. (c.type_inv.ties i).fits) p.ties_len a.count (members a.live) p.count_bound) (c.standing.ensures (λ j. tie_sound (members a.live) (tie_at a.ties.now j) && eqb (get_or a.ties.now (j * 4 + 3) 0) 0) (λ j r h q. search rules)) c.if-not-standing.false-raw c.all_zero.ensures
