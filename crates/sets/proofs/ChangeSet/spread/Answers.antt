-- `sets::ChangeSet::spread` meets its contract: the rows of the members that are not left have been taken in. The measure is how many of 256 are none of those. Assumes nothing.
use borrow.Author.Rules.{rules}
use Rattle.sets.specs.Members.{members}
use Rattle.sets.proofs.MemberLaws.{members_above}
use Rattle.sets.proofs.SpreadLaws.{spreading_start, spreading_less, spreading_on, spreading_end}
use Rattle.sets.proofs.ChangeSet.spread.Goals as goal

pub loop-c-init : goal.loop-c-init
loop-c-init c = (search rules, spreading_start _ _)

pub returns : goal.returns
returns c = let a = c.args in
    let l = c.loop-c in
    spreading_end a.rows.now (members a.self) (members l.s) (members l.left) l.invariant.1 (search rules) (members_above l.s l.invariant.0)

pub loop-c-smaller : goal.loop-c-smaller
loop-c-smaller c =
    let a = c.args in
    let l = c.loop-c in
    spreading_less a.rows.now (members a.self) (members l.s) (members l.left) l.invariant.1 c.in-Some.c (search rules) (search rules) (members c.row_at-row.result) (members c.pop_first.new.self) (members c.minus.result) (members c.unite-left.result)
    (members c.unite-s.result) c.row_at-row.ensures c.pop_first.ensures.rest c.minus.ensures c.unite-left.ensures c.unite-s.ensures

pub loop-c-preserved : goal.loop-c-preserved
loop-c-preserved c =
    let a = c.args in
    let l = c.loop-c in (
      search rules,
      spreading_on a.rows.now (members a.self) (members l.s) (members l.left) l.invariant.1 c.in-Some.c (search rules) (search rules) (members c.row_at-row.result) (members c.pop_first.new.self) (members c.minus.result) (members c.unite-left.result)
          (members c.unite-s.result) c.row_at-row.ensures c.pop_first.ensures.rest c.minus.ensures c.unite-left.ensures c.unite-s.ensures,
    )
