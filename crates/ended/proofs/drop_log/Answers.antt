-- `ended::drop_log` meets its contract. Assumes nothing.
use mathlib.Core.Path.{sym}
use Rattle.rules.specs.Effects.{unowned}
use Rattle.layout.specs.Codec.{decode}
use Rattle.layout.proofs.MemoryLaws.{bytes_again}
use Rattle.layout.proofs.LentLaws.{log_back}
use Rattle.sets.specs.Members.{members}
use Rattle.ended.proofs.EndLaws.{unowned-few, log-fits, dropped}
use Rattle.ended.proofs.drop_log.Goals as goal

pub returns : goal.returns
returns c = let s = c in
    let w = s.args.w.now in
    let count = c.records-count in
    let left = c.drop_owned-left in
    let is = log_back (decode w) (sym (bytes_again w s.requires.w_value)) (left.ensures (decode w).log (sym count.ensures.value)) c.store.ensures in record { w_after = is; w_after_2 = dropped w s.requires.w_value (members s.args.ended) is }

pub overflow_cast-left : goal.overflow_cast-left
overflow_cast-left c =
    let m = members c.args.ended in
    record { fits = log-fits c.args.w.now c.requires.w_value (unowned m) (unowned-few m) c.records-count.result c.drop_owned-left.result c.records-count.ensures.value c.records-count.ensures.upper_bound c.drop_owned-left.ensures }
