-- `change_log::hand_over` meets its contract: the records before the next went over. Assumes nothing.
use mathlib.Core.Path.{◌≡◌, ap, ◌∙◌}
use native.Mathlib.Omega.{arith}
use Rattle.rules.specs.Effects.{moved_record}
use Rattle.layout.specs.Codec.{log_section}
use Rattle.scope.specs.Entries.{entries_of}
use Rattle.change_log.proofs.MoveLaws.{first_none, first_turn, first-all}
use Rattle.change_log.proofs.hand_over.Goals as goal

pub loop-next-init : goal.loop-next-init
loop-next-init c = let o = c.args.over in λ l e q. q ∙ ap log_section (first_none (moved_record o.from o.to (entries_of o.scope)) l)

pub loop-next-preserved : goal.loop-next-preserved
loop-next-preserved c = let o = c.args.over in let l = c.loop-next in
    λ r e q. first_turn (moved_record o.from o.to (entries_of o.scope)) l.next r l.log _ (omega arith) (l.invariant r e q) c.hand_record.ensures

pub returns : goal.returns
returns c = let s = c in let a = s.args in let l = c.loop-next in
    let done : l.next ≡ a.count = omega arith in
    λ r e q. l.invariant r e q ∙ ap log_section (rw done (first-all a.over.from a.over.to (entries_of a.over.scope) r a.count e))
