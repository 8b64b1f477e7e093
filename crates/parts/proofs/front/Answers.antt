-- `parts::front` meets its contract. Assumes nothing.
use native.Mathlib.Omega.{arith}
use Rattle.rules.proofs.TurnLaws.{fails, passes, refused}
use Rattle.layout.specs.Codec.{locks_at, locks_size}
use Rattle.cells.specs.Part.{part}
use Rattle.cells.proofs.PartLaws.{length_part}
use Rattle.parts.proofs.front.Goals as goal

pub returns-then-not-values : goal.returns-then-not-values
unfolding part
returns-then-not-values c = λ st pa is. refused (λ s. fails c.values.ensures c.if-not-values.true-raw s.values)

pub returns-then-not-line : goal.returns-then-not-line
unfolding part
returns-then-not-line c = λ st pa is. refused (λ s. fails (c.line.ensures st pa is) c.if-not-line.true-raw s.line)

pub locks-requires : goal.locks-requires
unfolding part
locks-requires c = let s = c in record { locks_len = length_part s.args.w.now locks_at locks_size (omega arith); entries_bound = s.requires.entries_bound.0 }

pub returns : goal.returns
unfolding part
returns c = λ st pa is. (
  λ e. record {
    values = passes c.values.ensures c.if-not-values.false-raw;
    line = passes (c.line.ensures st pa is) c.if-not-line.false-raw;
    locks = c.locks.ensures.0 e;
  },
  λ s. c.locks.ensures.1 s.locks,
)
