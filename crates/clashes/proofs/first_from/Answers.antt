-- `clashes::first_from` meets its contract: the permits passed over are of lower entries. Assumes nothing.
use Rattle.std.proofs.Common.{◌≡◌, ◌+◌, ◌≤◌, ◌<◌, Bool, false, ℕ, arith}
use borrow.Author.Tests.{lt-leb, le-leb}
use Rattle.rules.proofs.BaseLaws.{Same, same, other, same?}
use Rattle.layout.specs.Records.{permit_at}
use Rattle.few_permits.specs.Rows.{permit_row}
use Rattle.clashes.specs.Permits.{from_entry}
use Rattle.clashes.proofs.first_from.Goals as goal

pub loop-place-init : goal.loop-place-init
loop-place-init c = λ j h l. absurd (omega arith)

pub returns-then-entry-permits : goal.returns-then-entry-permits
unfolding from_entry permit_row permit_at
returns-then-entry-permits c = let l = c.loop-place in record { from = omega arith; to = omega arith; skipped = l.invariant; found = λ h. le-leb c.args.entry _ c.if-entry-permits.true }

pub loop-place-preserved : goal.loop-place-preserved
unfolding from_entry permit_row permit_at
loop-place-preserved c = λ j h q. go j h q (same? j c.loop-place.place)
  where
    go : (j : ℕ) → c.args.start ≤ j → j < c.loop-place.place + 1 → {b : Bool} → Same j c.loop-place.place b → from_entry c.args.entry (permit_row c.args.permits.now j) ≡ false
    go j h q (same e) = rw e (lt-leb c.args.entry _ c.if-entry-permits.false)
    go j h q (other n) = c.loop-place.invariant j h (omega arith)

pub returns : goal.returns
returns c = let l = c.loop-place in record { from = omega arith; to = omega arith; skipped = λ j h q. l.invariant j h (omega arith); found = λ h. absurd (omega arith) }
