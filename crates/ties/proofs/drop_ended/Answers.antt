-- `ties::drop_ended` meets its contract: the rows that are spared are the ties that are left. Assumes nothing.
use Rattle.sets.specs.Members.{members}
use Rattle.ties.proofs.TieLaws.{ties_left_lem}
use Rattle.ties.proofs.drop_ended.Goals as goal

pub returns : goal.returns
returns c = let s = c in
    let a = s.args in
    let d = c.drop_involving in let r = ties_left_lem (members a.ended) a.count a.ties.now s.requires.count_bound d.result d.new.s d.ensures in record { upper_bound = r.0; tabled = r.1 }
