-- `parts::back` meets its contract. Assumes nothing.
use native.Mathlib.Omega.{arith}
use Rattle.layout.specs.Codec.{locks_at, locks_size, log_at, log_size}
use Rattle.cells.specs.Part.{part}
use Rattle.cells.proofs.PartLaws.{length_part}
use Rattle.rules.proofs.TurnLaws.{fails, passes, refused}
use Rattle.parts.proofs.back.Goals as goal

pub permits-requires : goal.permits-requires
permits-requires c = omega (arith, c.requires)

pub returns-then-not-permits : goal.returns-then-not-permits
unfolding part
returns-then-not-permits c = λ z. refused (λ s. fails c.permits.ensures c.if-not-permits.true-raw s.permits)

pub ties-requires : goal.ties-requires
ties-requires c = omega (arith, c.requires)

pub returns-then-not-ties : goal.returns-then-not-ties
unfolding part
returns-then-not-ties c = λ z. refused (λ s. fails c.ties.ensures c.if-not-ties.true-raw s.ties)

pub slice_bounds-log-end-2 : goal.slice_bounds-log-end-2
slice_bounds-log-end-2 c = omega (arith, c.requires)

pub log-requires : goal.log-requires
unfolding part
log-requires c = let w = c.args.w.now in
    let p = c.requires in record { log_len = length_part w log_at log_size (omega arith); count_bound = p.permits_bound.2; locks_len = length_part w locks_at locks_size (omega arith) }

pub returns : goal.returns
unfolding part
returns c = λ z. (
  λ e. record { permits = passes c.permits.ensures c.if-not-permits.false-raw; ties = passes c.ties.ensures c.if-not-ties.false-raw; log = (c.log.ensures _ _ z).0 e },
  λ s. (c.log.ensures _ _ z).1 s.log,
)
