-- `endings::abort` meets its contract. Assumes nothing.
use native.Mathlib.Omega.{arith}
use Rattle.rules.specs.Calls.{Abort}
use Rattle.rules.specs.Effects.{abort_change, effect}
use Rattle.rules.specs.Refusals.{◌if◌, checks}
use Rattle.layout.specs.Codec.{ties_at, ties_size}
use Rattle.layout.proofs.MemoryLaws.{bytes-sound}
use Rattle.cells.specs.Part.{part}
use Rattle.cells.proofs.PartLaws.{length_part}
use Rattle.sets.specs.Members.{members}
use Rattle.replies.proofs.GiveLaws.{unrefused}
use Rattle.reads.proofs.ReadLaws.{change_fits_lem}
use Rattle.endings.proofs.CallLaws.{ended_so, ended_else, end_set_read, abort-done}
use Rattle.endings.proofs.abort.Goals as goal

pub returns-then-status : goal.returns-then-status
unfolding effect abort_change
returns-then-status c = let status = c.status-status in
    ended_so c.args.w.now c.args.change status.result status.ensures 5 4 _ c.requires.w_value c.if-status.true c.done.result c.done.ensures

pub returns-then-status-2 : goal.returns-then-status-2
unfolding effect abort_change
returns-then-status-2 c = let status = c.status-status in
    ended_else c.args.w.now c.args.change status.result status.ensures 5 4 _ c.requires.w_value c.if-status.false c.if-status-2.true c.unchanged.result c.unchanged.ensures

pub end_set-ended-requires : goal.end_set-ended-requires
unfolding part
end_set-ended-requires c = omega (arith, length_part c.args.w.now ties_at ties_size (omega arith), c.ties-ties.ensures.upper_bound)

pub returns : goal.returns
returns c = let w = c.args.w.now in
    let status = c.status-status in
    let ties = c.ties-ties in
    let ended = c.end_set-ended in
    let count = c.count in
    abort-done w c.requires.w_value c.args.change status.result c.requires.change_value status.ensures c.if-status.false c.if-status-2.false
    (members ended.result) (end_set_read w c.requires.w_value c.args.change ties.result ties.ensures.value (members ended.result) ended.ensures)
    count.result count.ensures c.done-2.result c.done-2.ensures _ c.abort_all.ensures

pub overflow_cast-change : goal.overflow_cast-change
unfolding checks ◌if◌
overflow_cast-change c = omega (arith, change_fits_lem _ (bytes-sound c.args.w.now c.requires.w_value) c.args.change (unrefused _ (Abort _) c.requires.change_value).0)
