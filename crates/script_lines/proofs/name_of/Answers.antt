-- `script_lines::name_of` meets its contract: the text is none of the names so far. Assumes nothing.
use mathlib.Core.Path.{◌≡◌, sym, ap, ◌∙◌}
use Prim.Native.Nat.{ℕ}
use native.Mathlib.Omega.{arith}
use Rattle.script_lines.proofs.NameLaws.{place_from, from_first, past_last, name_here, name_further}
use Rattle.script_lines.proofs.name_of.Goals as goal

pub loop-name-init : goal.loop-name-init
loop-name-init c = from_first c.args.text.now

pub returns-then-same : goal.returns-then-same
returns-then-same c = name_here c.loop-name.name-index _ c.args.text.now (omega arith) (rw c.text_of.ensures at (sym c.same.ensures ∙ c.if-same.true)) ∙ c.loop-name.invariant

pub loop-name-preserved : goal.loop-name-preserved
loop-name-preserved c = name_further c.loop-name.name-index _ c.args.text.now (omega arith) (rw c.text_of.ensures at (sym c.same.ensures ∙ c.if-same.false)) ∙ c.loop-name.invariant

pub returns : goal.returns
returns c =
    let e : c.loop-name.name-index ≡ 15 = omega arith in
    sym (past_last c.args.text.now) ∙ ap (λ (i : ℕ). place_from i c.args.text.now) (sym e) ∙ c.loop-name.invariant
