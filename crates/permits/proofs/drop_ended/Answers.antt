-- `permits::drop_ended` meets its contract: the rows that are spared are the permits that are left. Assumes nothing.
use Rattle.sets.specs.Members.{members}
use Rattle.permits.proofs.PermitLaws.{permits_left_lem}
use Rattle.permits.proofs.drop_ended.Goals as goal

pub returns : goal.returns
returns c = let s = c in
    let a = s.args in
    let d = c.drop_involving in let r = permits_left_lem (members a.ended) a.count a.permits.now s.requires.count_bound d.result d.new.s d.ensures in record { upper_bound = r.0; tabled = r.1 }
