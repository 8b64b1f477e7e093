-- `listing::Stand::end_later` meets its contract. Assumes nothing.
use lib.ListN.{take}
use Rattle.listing.proofs.StandLaws.{later_whole}
use Rattle.listing.proofs.Stand.end_later.Goals as goal

pub returns-clause-out_after : goal.returns-clause-out_after
returns-clause-out_after c =
    let a = c.args in let s = a.self.now in let r = c.answer-reply in
    later_whole (take s.held a.line.now) a.memory.now (take s.used a.out.now) s.stage a.before c.requires.stage r.result r.new.memory _ r.ensures c.put_line-self.ensures.out_after
