-- `sets::ChangeSet::close` meets its contract: few ties by passes, many noted in rows along which the set spreads. Assumes nothing.
use native.Mathlib.Omega.{arith}
use borrow.Author.Rules.{rules}
use Rattle.sets.specs.Members.{members}
use Rattle.sets.proofs.ClosureLaws.{low_most}
use Rattle.sets.proofs.SpreadLaws.{spread_section}
use Rattle.sets.proofs.ChangeSet.close.Goals as goal

pub note_ties-requires : goal.note_ties-requires
note_ties-requires c = record { rows_len = search rules; count_in_bounds = search rules; low_bound = omega (arith, low_most c.args.along) }

pub returns : goal.returns
returns c = let a = c.args in
    let low = c.low_kind-low in
    let n = c.note_ties in
    λ ts len e.
    spread_section a.along low.result a.ties.now ts a.count n.new.rows (members a.self) (members c.spread.result) low.ensures
    (λ i. omega (arith, c.type_inv.ties i)) (search rules) len e n.ensures c.spread.ensures
