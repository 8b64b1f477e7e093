-- `effects::initiate` meets its contract. Assumes nothing.
use Rattle.effects.proofs.ArgumentLaws.{initiate_known}
use Rattle.effects.proofs.EffectLaws.{initiate_given}
use Rattle.effects.proofs.initiate.Goals as goal

pub returns : goal.returns
returns c = let d = c in
    let n = c.given-change in
    let s = c.store_status in
    let p = c.store_parent in
    let k = c.store in
    initiate_given d.args.w.now d.requires.w_value c.done.result n.result d.args.parent n.ensures.value s.new.changes p.new.changes k.new.head s.ensures p.ensures k.ensures c.done.ensures

pub overflow_cast-change : goal.overflow_cast-change
overflow_cast-change c = record { fits = (initiate_known c.args.w.now c.requires.w_value c.args.parent c.requires.parent_value _ c.given-change.ensures.value).0 }

pub overflow_cast-change-2 : goal.overflow_cast-change-2
overflow_cast-change-2 c = record { fits = (initiate_known c.args.w.now c.requires.w_value c.args.parent c.requires.parent_value _ c.given-change.ensures.value).0 }

pub overflow_cast-parent : goal.overflow_cast-parent
overflow_cast-parent c = record { fits = (initiate_known c.args.w.now c.requires.w_value c.args.parent c.requires.parent_value _ c.given-change.ensures.value).1 }
