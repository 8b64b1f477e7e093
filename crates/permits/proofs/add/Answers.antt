-- `permits::add` meets its contract: the row of the permit is added. Assumes nothing.
use borrow.Author.Rules.{rules}
use Rattle.rows.specs.Rows.{row_of}
use Rattle.permits.proofs.PermitLaws.{permits-rising, permits_added}
use Rattle.permits.proofs.add.Goals as goal

pub returns : goal.returns
unfolding row_of
returns c = record {
  upper_bound = search rules;
  tabled = λ ps len is rise.
      let s = c in
      let a = s.args in
      let r = c.insert in
      permits_added ps a.count a.permits.now len is s.requires.count_bound a.giver a.taker a.entry a.operations r.result r.new.s
      (r.ensures.stored (permits-rising ps a.count a.permits.now len is s.requires.count_bound rise));
}
