-- `rows::drop_involving` meets its contract: the test answers whether a row is spared. Assumes nothing.
use borrow.Author.Rules.{rules}
use Rattle.words.specs.Members.{words_have}
use Rattle.sets.specs.Members.{members}
use Rattle.rows.specs.Rows.{row_bytes, spared}
use Rattle.rows.proofs.CloseLaws.{retained_rows}
use Rattle.rows.proofs.drop_involving.Goals as goal

pub returns : goal.returns
unfolding members spared row_bytes
returns c = let a = c.args in
    retained_rows _ _ (spared (words_have a.ended.words)) (λ x b p k. search rules) a.n a.s.now c.requires c.retain.result c.retain.new.s c.retain.ensures.retained
