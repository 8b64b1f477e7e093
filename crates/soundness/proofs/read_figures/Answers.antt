-- `soundness::read_figures` meets its contract. Assumes nothing.
use native.Mathlib.Omega.{arith}
use Rattle.cells.specs.Part.{part}
use Rattle.soundness.proofs.read_figures.Goals as goal

pub returns : goal.returns
unfolding part
returns c = λ h. record {
  entries = c.read.ensures _ h.bytes (omega (arith, h.entries_most));
  given = c.read-2.ensures _ h.bytes (omega (arith, h.given_most));
  records = c.read-3.ensures _ h.bytes (omega (arith, h.records_most));
  permits = c.read-4.ensures _ h.bytes (omega (arith, h.permits_most));
  ties = c.read-5.ensures _ h.bytes (omega (arith, h.ties_most));
  waiters = c.read-6.ensures _ h.bytes (omega (arith, h.waiters_most));
}
