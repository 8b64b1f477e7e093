-- `ties::add` meets its contract: the row of the tie is added. Assumes nothing.
use borrow.Author.Rules.{rules}
use Rattle.rules.specs.Ties.{make_tie}
use Rattle.rows.specs.Rows.{row_of, with_key}
use Rattle.ties.proofs.TieLaws.{key_row, ties-rising, ties_added}
use Rattle.ties.proofs.add.Goals as goal

pub returns : goal.returns
unfolding row_of
returns c = record {
  upper_bound = search rules;
  tabled = λ ts len is rise.
      let a = c.args in
      let r = c.insert in
      ties_added ts a.count a.ties.now len is c.requires.count_bound (with_key c.key.result 0) (make_tie a.kind a.leader a.follower) (key_row a.kind a.leader a.follower c.key.result c.key.ensures)
      r.result r.new.s (r.ensures.stored (ties-rising ts a.count a.ties.now len is c.requires.count_bound rise));
}
