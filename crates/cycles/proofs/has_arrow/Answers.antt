-- `cycles::has_arrow` meets its contract: what `any` answers over the rows. Assumes nothing.
use Rattle.std.proofs.Common.{◌≡◌, true, false, get_or, rules, tests}
use Rattle.std.proofs.lemmas.Iterator.{cases_from_any, YieldsList-from_slice}
use Rattle.rules.specs.Ties.{is_arrow}
use Rattle.cycles.proofs.RowLaws.{any_row}
use Rattle.cycles.proofs.has_arrow.Goals as goal

pub returns : goal.returns
returns c = any_row c.any.result c.args.ties.now (cases_from_any _ _ _ (λ row. is_arrow (get_or row 0 0) ≡ true) (λ row. is_arrow (get_or row 0 0) ≡ false) c.any.ensures.ran (YieldsList-from_slice c.args.ties.now cc) (λ x q k. search (rules, tests)) (λ x q k. search (rules, tests)))
