-- `ended::withdraw` meets its contract: the values are undone in a copy, which is put back. Assumes nothing.
use mathlib.Core.Path.{ap}
use mathlib.Core.List.{List}
use Prim.Native.Nat.{ℕ}
use Rattle.rules.specs.Effects.{records_left}
use Rattle.rules.proofs.UndoLaws.{left_few}
use Rattle.layout.specs.Codec.{values_at, values_size, log_at, log_size}
use Rattle.layout.proofs.PutLaws.{laid_at}
use Rattle.sets.specs.Members.{members}
use Rattle.ended.proofs.EndLaws.{log-fits, withdrawn}
use Rattle.ended.proofs.withdraw.Goals as goal

pub returns : goal.returns
returns c = let s = c in
    let count = c.records-records in
    let copy = c.copy_from_slice in
    let left = c.withdraw-left in
    let r = withdrawn s.args.w.now copy.new.self copy.ensures.after s.requires.w_value (members s.args.ended) count.result left.result count.ensures.value left.ensures.by_index left.ensures.tabled
    (ap (λ (xs : List ℕ). laid_at (laid_at s.args.w.now log_at log_size left.new.log) values_at values_size xs) c.copy_from_slice-2.ensures.after) c.store.ensures in
    record { w_after = r.0; w_after_2 = r.1 }

pub overflow_cast-left : goal.overflow_cast-left
overflow_cast-left c =
    let m = members c.args.ended in
    record { fits = log-fits c.args.w.now c.requires.w_value (records_left m) (left_few m) c.records-records.result c.withdraw-left.result c.records-records.ensures.value c.records-records.ensures.upper_bound c.withdraw-left.ensures.tabled }
