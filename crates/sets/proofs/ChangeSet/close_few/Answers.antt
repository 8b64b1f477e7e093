-- `sets::ChangeSet::close_few` meets its contract: passes keep what `Growing` says, and the last adds nothing. The measure is how many of 256 are no members. Assumes nothing.
use mathlib.Core.Path.{sym, ◌∙◌}
use native.Mathlib.Omega.{arith}
use borrow.Author.Rules.{rules}
use Rattle.words.specs.Members.{words_have}
use Rattle.passes.proofs.PassLaws.{growing_start}
use Rattle.sets.specs.Members.{members}
use Rattle.sets.proofs.MemberLaws.{members-all, agree_at}
use Rattle.sets.proofs.Words.{of_words}
use Rattle.sets.proofs.ClosureLaws.{pass_less, pass_grows, closed_section}
use Rattle.sets.proofs.ChangeSet.close_few.Goals as goal

pub loop-before-init : goal.loop-before-init
loop-before-init c = (search rules, growing_start _ _ _ _)

pub returns-then-equal : goal.returns-then-equal
unfolding members
returns-then-equal c = let a = c.args in
    let l = c.loop-before in
    let t = c.pass in
    λ ts len e.
    closed_section c.low_kind-low.result a.ties.now a.count l.back (words_have l.set.words) (words_have t.new.words) t.ensures.words_after
    a.along ts (words_have a.self.words) c.low_kind-low.ensures
    (λ i. omega (arith, c.type_inv.ties i)) (search rules) len e l.invariant.1
    (members-all (of_words t.new.words) (of_words l.set.words) t.ensures.words_len_2 l.invariant.0 (agree_at 256 (members (of_words t.new.words)) (members (of_words l.set.words)) (sym c.equal.ensures ∙ c.if-equal.true)))

pub loop-before-smaller : goal.loop-before-smaller
unfolding members
loop-before-smaller c =
    let a = c.args in
    let l = c.loop-before in
    let t = c.pass in
    pass_less c.low_kind-low.result a.ties.now a.count l.back (words_have l.set.words) (words_have t.new.words) t.ensures.words_after
    c.equal.result c.equal.ensures c.if-equal.false

pub loop-before-preserved : goal.loop-before-preserved
loop-before-preserved c =
    let a = c.args in
    let l = c.loop-before in
    let t = c.pass in
    (t.ensures.words_len_2, pass_grows c.low_kind-low.result a.ties.now a.count l.back (words_have l.set.words) (words_have t.new.words) t.ensures.words_after (words_have a.self.words) l.invariant.1)
