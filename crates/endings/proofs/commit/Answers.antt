-- `endings::commit` meets its contract. Assumes nothing.
use mathlib.Core.Path.{refl, ◌∙◌}
use native.Mathlib.Omega.{arith}
use Rattle.rules.specs.Calls.{Commit}
use Rattle.rules.specs.Effects.{commit_change, effect}
use Rattle.rules.specs.Refusals.{◌if◌, checks}
use Rattle.layout.specs.Codec.{ties_at, ties_size}
use Rattle.layout.proofs.MemoryLaws.{bytes-sound}
use Rattle.cells.specs.Part.{part}
use Rattle.cells.proofs.PartLaws.{length_part}
use Rattle.sets.specs.Members.{members}
use Rattle.replies.proofs.GiveLaws.{unrefused}
use Rattle.reads.proofs.ReadLaws.{change_fits_lem}
use Rattle.endings.proofs.CallLaws.{ended_so, ended_else, group_read, commit-waits, commit-ends, some_there, none_there}
use Rattle.endings.proofs.commit.Goals as goal

pub returns-then-status : goal.returns-then-status
unfolding effect commit_change
returns-then-status c = let status = c.status-status in
    ended_so c.args.w.now c.args.change status.result status.ensures 4 5 _ c.requires.w_value c.if-status.true c.done.result c.done.ensures

pub returns-then-status-2 : goal.returns-then-status-2
unfolding effect commit_change
returns-then-status-2 c = let status = c.status-status in
    ended_else c.args.w.now c.args.change status.result status.ensures 4 5 _ c.requires.w_value c.if-status.false c.if-status-2.true c.unchanged.result c.unchanged.ensures

pub group-group-requires : goal.group-group-requires
unfolding part
group-group-requires c = omega (arith, length_part c.args.w.now ties_at ties_size (omega arith), c.ties-ties.ensures.upper_bound)

pub returns-in-Some : goal.returns-in-Some
returns-in-Some c = let w = c.args.w.now in
    let status = c.status-status in
    let ties = c.ties-ties in
    let group = c.group-group in
    let blockers = c.blockers-blockers in
    commit-waits w c.requires.w_value c.args.change status.result c.requires.change_value status.ensures c.if-status.false c.if-status-2.false
    (members group.result) (group_read w c.requires.w_value c.args.change ties.result ties.ensures.value (members group.result) group.ensures)
    (members blockers.result) blockers.ensures _ refl (some_there (members blockers.result) c.in-Some.blocker (omega arith) (rw c.in-Some.is at c.first.ensures)) c.blocked.result c.blocked.ensures.0 (c.blocked.ensures.1 ∙ c.from.ensures ∙ rw c.in-Some.is at c.first.ensures)

pub returns : goal.returns
returns c = let w = c.args.w.now in
    let status = c.status-status in
    let ties = c.ties-ties in
    let group = c.group-group in
    let blockers = c.blockers-blockers in
    let count = c.count in
    commit-ends w c.requires.w_value c.args.change status.result c.requires.change_value status.ensures c.if-status.false c.if-status-2.false
    (members group.result) (group_read w c.requires.w_value c.args.change ties.result ties.ensures.value (members group.result) group.ensures)
    (members blockers.result) blockers.ensures _ refl (none_there (members blockers.result) (rw c.in_default.is at c.first.ensures))
    count.result count.ensures c.done-2.result c.done-2.ensures _ c.commit_all.ensures

pub overflow_cast-change : goal.overflow_cast-change
unfolding checks ◌if◌
overflow_cast-change c = omega (arith, change_fits_lem _ (bytes-sound c.args.w.now c.requires.w_value) c.args.change (unrefused _ (Commit _) c.requires.change_value).0)
