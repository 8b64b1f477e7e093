-- `permits::hand_over` meets its contract: the rows that move are taken out of a copy, those that stay are closed up, and the first are given. Assumes nothing.
use native.Mathlib.Omega.{arith}
use borrow.Author.Rules.{rules}
use Rattle.scope.specs.Entries.{entries_of, takes}
use Rattle.rows.specs.Rows.{row_bytes, Closed}
use Rattle.rows.proofs.CloseLaws.{retained_rows}
use Rattle.permits.specs.PermitRows.{given_by, moves, stays}
use Rattle.permits.proofs.HandLaws.{Parted, hand_fits, hand_rising, hand_over_lem}
use Rattle.permits.proofs.hand_over.Goals as goal

pub give_all-requires : goal.give_all-requires
give_all-requires c = let m = c.retain-m.ensures.upper_bound in
    let l = c.retain-left.ensures.upper_bound in record { n_bound = omega arith; s_len = search rules; m_in_bounds = omega arith }

pub returns : goal.returns
unfolding given_by moves stays takes row_bytes
returns c = record {
  upper_bound = search rules;
  tabled = λ ps len is rise.
      let s = c in
      let a = s.args in
      let m = c.retain-m in
      let l = c.retain-left in
      let g = c.give_all in
      let on = entries_of a.over.scope in
      let taken : Closed (moves a.over.from a.over.to on) a.count c.copy_from_slice.new.self m.result m.new.s =
      retained_rows _ _ (moves a.over.from a.over.to on) (λ x b p k. search rules) a.count c.copy_from_slice.new.self (omega arith) m.result m.new.s m.ensures.retained in
      let kept : Closed (stays a.over.from on) a.count a.permits.now l.result l.new.s =
      retained_rows _ _ (stays a.over.from on) (λ x b p k. search rules) a.count a.permits.now (omega arith) l.result l.new.s l.ensures.retained in
      let p : Parted a.permits.now a.count a.over.from a.over.to on m.new.s m.result l.new.s l.result =
      record { taken = rw c.copy_from_slice.ensures.after at taken; kept = kept } in
      hand_over_lem ps a.count a.permits.now len is s.requires.count_bound a.over.from a.over.to on m.new.s m.result l.new.s l.result p g.result g.new.s
      (g.ensures.stored (hand_rising ps a.count a.permits.now len is s.requires.count_bound a.over.from a.over.to on m.new.s m.result l.new.s l.result p rise) (hand_fits ps a.count a.permits.now len is s.requires.count_bound a.over.from a.over.to on m.new.s m.result l.new.s l.result p));
}
