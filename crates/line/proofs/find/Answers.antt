-- `line::find` meets its contract: the records are those of the section. Assumes nothing.
use borrow.Author.Rules.{rules}
use Rattle.line.proofs.LineLaws.{position_found}
use Rattle.line.proofs.find.Goals as goal

pub returns-clause-found : goal.returns-clause-found
returns-clause-found c = let a = c.args in
    position_found a.line.now a.count c.as_chunks.result.0.now (search rules) c.as_chunks.ensures.front a.k a.x (search rules) c.place_of.result c.place_of.ensures.value
