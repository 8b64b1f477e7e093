-- `change_log::drop_owned` meets its contract: the test answers whether the owner of a record lives on. Assumes nothing.
use mathlib.Core.Path.{◌∙◌}
use native.Mathlib.Omega.{arith}
use borrow.Author.Rules.{rules}
use Rattle.rules.specs.Effects.{is_unowned, unowned}
use Rattle.layout.specs.Codec.{record_bytes}
use Rattle.layout.proofs.RecordLaws.{log_flat}
use Rattle.words.specs.Members.{words_have}
use Rattle.sets.specs.Members.{members}
use Rattle.rows.proofs.RetainLaws.{retained_values}
use Rattle.change_log.proofs.LogLaws.{length_record}
use Rattle.change_log.proofs.DropLaws.{unused, closed_up}
use Rattle.change_log.proofs.drop_owned.Goals as goal

pub returns : goal.returns
unfolding members unowned is_unowned record_bytes
returns c = λ l e q. let a = c.args in
    let r = c.retain in
    let v = retained_values _ _ 6 record_bytes length_record (is_unowned (words_have a.ended.words)) (λ x b p k. search rules) l (unused l) a.log.now (q ∙ log_flat l (omega arith)) a.count r.result r.new.s e r.ensures.retained in
    closed_up _ l a.count r.result r.new.s e (omega arith) r.ensures.upper_bound v.0 v.1
