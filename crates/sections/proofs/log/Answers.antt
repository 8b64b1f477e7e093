-- `sections::log` meets its contract. Assumes nothing.
use Rattle.cells.proofs.ZeroLaws.{places_failed, places_passed}
use Rattle.sections.proofs.LogLaws.{log-sound}
use Rattle.sections.proofs.log.Goals as goal

pub returns-then-not-standing_records : goal.returns-then-not-standing_records
returns-then-not-standing_records c = λ entries lives z.
    let a = c.args in
    let p = c.requires in
    places_failed (log-sound a.log.now (λ i. (c.type_inv.log i).fits) p.log_len a.count p.count_bound a.locks.now entries lives z) c.standing_records.ensures c.if-not-standing_records.true-raw

pub returns : goal.returns
returns c = λ entries lives z.
    let a = c.args in
    let p = c.requires in
    places_passed (log-sound a.log.now (λ i. (c.type_inv.log i).fits) p.log_len a.count p.count_bound a.locks.now entries lives z) c.standing_records.ensures c.if-not-standing_records.false-raw c.all_zero.ensures
