-- `records::depend` meets its contract. Assumes nothing.
use Rattle.rules.specs.Effects.{effect}
use Rattle.replies.proofs.GiveLaws.{given-done}
use Rattle.records.proofs.ArgumentLaws.{depend_known}
use Rattle.records.proofs.depend.Goals as goal

pub overflow_cast-kind : goal.overflow_cast-kind
overflow_cast-kind c = record { fits = (depend_known c.args.w.now c.requires.w_value c.args.kind c.args.leader c.args.follower c.requires.follower_value).0 }

pub overflow_cast-leader : goal.overflow_cast-leader
overflow_cast-leader c = record { fits = (depend_known c.args.w.now c.requires.w_value c.args.kind c.args.leader c.args.follower c.requires.follower_value).1 }

pub overflow_cast-follower : goal.overflow_cast-follower
overflow_cast-follower c = record { fits = (depend_known c.args.w.now c.requires.w_value c.args.kind c.args.leader c.args.follower c.requires.follower_value).2 }

pub enter_tie-requires : goal.enter_tie-requires
enter_tie-requires c = let s = c in
    let n = c.ties-before in record { w_value = s.requires.w_value; before_value = n.ensures.value; before_bound = n.ensures.upper_bound; ties_value = (depend_known s.args.w.now s.requires.w_value s.args.kind s.args.leader s.args.follower s.requires.follower_value).3 }

pub returns : goal.returns
unfolding effect
returns c = given-done 0 _ c.done.result _ c.done.ensures c.enter_tie.ensures
