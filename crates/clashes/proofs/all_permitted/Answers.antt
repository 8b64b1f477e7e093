-- `clashes::all_permitted` meets its contract: the entries passed have permits for their clashing pairs, and the permits before `next` are of those entries. Assumes nothing.
use Rattle.std.proofs.Common.{refl, sym, ◌∙◌, ap, not, ℕ, ◌<◌, ◌+◌, length, arith}
use Rattle.rules.proofs.PairLaws.{entry_permitted, by_pairs}
use Rattle.rules.proofs.TurnLaws.{none_yet, turn_failed, turn_passed, turns_done}
use Rattle.few_permits.specs.Rows.{permit_row}
use Rattle.clashes.proofs.PlaceLaws.{section_rows}
use Rattle.clashes.proofs.ClashLaws.{lower_last, turn_quiet, turn_found}
use Rattle.clashes.proofs.all_permitted.Goals as goal
use Rattle.clashes.proofs.all_permitted.Goals.{then-contested+else-not-entry_permitted, else-contested}

pub loop-entry-init : goal.loop-entry-init
loop-entry-init c = record { within = omega arith; lower = λ j h. absurd (omega arith); permitted = λ W h. none_yet (entry_permitted W) }

pub returns-then-not-entry_permitted : goal.returns-then-not-entry_permitted
returns-then-not-entry_permitted c W h = let a = c.args in
    let l = c.loop-entry in
    let rows = c.as_chunks.result.0.now in
    let s = section_rows W.permits a.permits.now a.count rows h.permits_stored h.permit_count c.requires.count_bound c.requires.permits_len c.as_chunks.ensures.front_len c.as_chunks.ensures.front in
    let from = c.first_from-from in
    let to = c.first_from-to in
    let one = c.entry_permitted in
    turn_failed W.entries (entry_permitted W) l.entry one.result (rw h.entry-count (omega arith))
    (turn_found a.locks.now a.permits.now a.entries a.count W h l.entry one.result rows s.0 s.1 l.next from.result to.result l.invariant.lower from.ensures to.ensures one.ensures)
    (ap not c.if-not-entry_permitted.true)
    ∙ sym (by_pairs W)

pub loop-entry-preserved : goal.loop-entry-preserved
loop-entry-preserved c = let a = c.args in
    let l = c.loop-entry in
    let rows = c.as_chunks.result.0.now in
    elim c.if-contested.branch [
      | then-contested+else-not-entry_permitted w ↦
          let from = w.first_from-from in
          let to = w.first_from-to in
          let lower : (j : ℕ) → j < to.result → (permit_row rows j).entry < l.entry + 1 = lower_last (permit_row rows) (length rows) l.entry l.next from.result to.result l.invariant.lower from.ensures to.ensures in
          record {
            within = rw w.next-is to.ensures.to;
            lower = rw w.next-is lower;
            permitted = λ W h.
                let s = section_rows W.permits a.permits.now a.count rows h.permits_stored h.permit_count c.requires.count_bound c.requires.permits_len c.as_chunks.ensures.front_len c.as_chunks.ensures.front in
                turn_passed l.entry (entry_permitted W) w.entry_permitted.result (l.invariant.permitted W h)
                (turn_found a.locks.now a.permits.now a.entries a.count W h l.entry w.entry_permitted.result rows s.0 s.1 l.next from.result to.result l.invariant.lower from.ensures to.ensures w.entry_permitted.ensures)
                (ap not w.if-not-entry_permitted.false);
          }
      | else-contested w ↦ record {
        within = rw w.next-is l.invariant.within;
        lower = rw w.next-is (λ j h. omega (arith, l.invariant.lower j h));
        permitted = λ W h. turn_passed l.entry (entry_permitted W) (entry_permitted W l.entry) (l.invariant.permitted W h) refl
            (ap not (turn_quiet a.locks.now a.permits.now a.entries a.count W h l.entry c.contested.result c.contested.ensures w.if-contested.false));
      }
    ]

pub returns : goal.returns
returns c W h = let l = c.loop-entry in
    turns_done W.entries (entry_permitted W) l.entry (l.invariant.permitted W h) (rw h.entry-count (omega arith)) ∙ sym (by_pairs W)
