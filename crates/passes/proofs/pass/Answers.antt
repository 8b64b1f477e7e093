-- `passes::pass` meets its contract: after j ties, what the first j that it comes to add. Assumes nothing.
use mathlib.Core.Path.{refl, ap, ◌∙◌}
use Prim.Native.Nat.{◌<◌}
use native.Mathlib.Omega.{arith}
use borrow.Author.Rules.{rules}
use Rattle.rules.specs.Window.{TieRecord}
use Rattle.layout.specs.Records.{tie_at}
use Rattle.words.specs.Members.{words_have}
use Rattle.passes.specs.Passes.{tie_from, pulled, passed}
use Rattle.passes.proofs.PassLaws.{passed-next, place_below}
use Rattle.passes.proofs.pass.Goals as goal

pub loop-j-init : goal.loop-j-init
unfolding passed
loop-j-init c = (c.told-words, refl)

pub at-tie-requires : goal.at-tie-requires
at-tie-requires c =
    let within : c.place-next.result < c.args.count = rw c.place-next.ensures (place_below c.args.back _ c.loop-j.j (omega arith)) in
    omega (arith, c.requires)

pub loop-j-preserved : goal.loop-j-preserved
unfolding tie_from
loop-j-preserved c = let a = c.args in
    let l = c.loop-j in (
      search rules,
      passed-next a.low (tie_from a.back a.ties.now a.count) l.j (words_have a.words.now) (words_have l.words) (words_have c.pull.new.words)
          (c.pull.ensures ∙ ap (λ (t : TieRecord). pulled a.low t (words_have l.words)) (c.at-tie.ensures ∙ ap (tie_at a.ties.now) c.place-next.ensures)) l.invariant.1,
    )
