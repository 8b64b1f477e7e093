-- `passes::note_tie` meets its contract: by whether the tie is gone along, and whether it is a group's. Assumes nothing.
use mathlib.Core.Path.{◌≡◌, sym, ◌∙◌}
use mathlib.Core.Bool.{false, true≢false}
use native.Mathlib.Omega.{arith}
use Rattle.rules.specs.Ties.{is_group}
use Rattle.rules.proofs.BaseLaws.{no_true}
use Rattle.rules.proofs.TieLaws.{is_group_lem}
use Rattle.layout.specs.Records.{tie_of}
use Rattle.passes.specs.Passes.{follows}
use Rattle.passes.specs.TieRows.{row_has}
use Rattle.passes.proofs.PassLaws.{follows_of}
use Rattle.passes.proofs.NoteLaws.{along_both, along_one, along_none}
use Rattle.passes.proofs.note_tie.Goals as goal

pub returns-then-is_group : goal.returns-then-is_group
returns-then-is_group c x y = let a = c.args in let t = a.tie in
    c.note-then-is_group.ensures x y ∙ rw (c.note.ensures x y) (along_both a.low (tie_of t.kind t.leader t.follower) x y (row_has a.rows.now x y) (sym c.follows.ensures ∙ c.if-follows.true) (sym c.is_group.ensures ∙ c.if-is_group.true))

pub returns-else-is_group : goal.returns-else-is_group
returns-else-is_group c x y = let a = c.args in let t = a.tie in
    c.note.ensures x y ∙ along_one a.low (tie_of t.kind t.leader t.follower) x y (row_has a.rows.now x y) (sym c.follows.ensures ∙ c.if-follows.true) (sym c.is_group.ensures ∙ c.if-is_group.false)

pub returns-else-follows : goal.returns-else-follows
returns-else-follows c x y = let a = c.args in let t = a.tie in
    let f : follows a.low t.kind ≡ false = sym c.follows.ensures ∙ c.if-follows.false in
    let g : is_group t.kind ≡ false =
    no_true _ (λ e. let k : t.kind ≡ 3 = is_group_lem t.kind e in true≢false (sym (follows_of a.low t.kind (omega (arith, c.requires)) (omega arith)) ∙ f)) in
    along_none a.low (tie_of t.kind t.leader t.follower) x y (row_has a.rows.now x y) f g
