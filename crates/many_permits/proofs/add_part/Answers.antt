-- `many_permits::add_part` meets its contract: the permits of a part without the writer's number name nobody beside it. Assumes nothing.
use mathlib.Core.Path.{sym, ap, ◌∙◌}
use mathlib.Core.Bool.{Bool, ◌||◌, or-false}
use lib.ListN.{length}
use Rattle.sets.specs.Members.{members}
use Rattle.few_permits.specs.Rows.{permit_row}
use Rattle.many_permits.specs.Named.{names}
use Rattle.many_permits.proofs.BlockLaws.{any_nothing, block_none}
use Rattle.many_permits.proofs.NamedLaws.{names_none}
use Rattle.many_permits.proofs.add_part.Goals as goal

pub returns : goal.returns
returns c k = let a = c.args in
    let h = a.holders.now in
    let present = c.in_block-present in
    let none = block_none a.part.now c.told-part a.writer present.result present.ensures c.if-present.false in
    let nobody = any_nothing (permit_row a.part.now) (names (members h.readers) (members h.writers) a.writer k) (length a.part.now)
    (λ j l. names_none (members h.readers) (members h.writers) a.writer k (permit_row a.part.now j) (none j l)) in
    sym (ap (λ (b : Bool). members a.s k || b) nobody ∙ or-false (members a.s k))
