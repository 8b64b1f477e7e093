-- `sections::locks` meets its contract. Assumes nothing.
use Rattle.sets.specs.Members.{members}
use Rattle.cells.proofs.ZeroLaws.{places_failed, places_passed}
use Rattle.sections.proofs.LockLaws.{locks-sound}
use Rattle.sections.proofs.locks.Goals as goal

pub returns-then-not-rows : goal.returns-then-not-rows
returns-then-not-rows c = let a = c.args in
    let p = c.requires in
    places_failed (locks-sound a.locks.now (λ i. (c.type_inv.locks i).fits) p.locks_len a.entries (members a.live) p.entries_bound) c.rows.ensures c.if-not-rows.true-raw

pub returns : goal.returns
returns c = let a = c.args in
    let p = c.requires in
    places_passed (locks-sound a.locks.now (λ i. (c.type_inv.locks i).fits) p.locks_len a.entries (members a.live) p.entries_bound) c.rows.ensures c.if-not-rows.false-raw c.all_zero.ensures
