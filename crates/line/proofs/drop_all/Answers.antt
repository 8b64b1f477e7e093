-- `line::drop_all` meets its contract: the test answers whether a record's change stays. Assumes nothing.
use borrow.Author.Rules.{rules}
use Rattle.words.specs.Members.{words_have}
use Rattle.sets.specs.Members.{members}
use Rattle.rows.specs.Rows.{row_bytes}
use Rattle.rows.proofs.CloseLaws.{retained_rows}
use Rattle.line.specs.Line.{row_stays}
use Rattle.line.proofs.LineLaws.{line_left_lem}
use Rattle.line.proofs.drop_all.Goals as goal

pub returns : goal.returns
unfolding members row_stays row_bytes
returns c = let a = c.args in
    let stays = row_stays (words_have a.leaving.words) in
    let closed = retained_rows _ _ stays (λ x b p k. search rules) a.count a.line.now (search rules) c.retain.result c.retain.new.s c.retain.ensures.retained in
    let r = line_left_lem (words_have a.leaving.words) a.count a.line.now c.requires.count_bound c.retain.result c.retain.new.s closed in
    record { upper_bound = r.0; tabled = r.1 }
