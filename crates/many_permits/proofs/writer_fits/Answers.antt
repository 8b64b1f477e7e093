-- `many_permits::writer_fits` meets its contract: nobody is left once permits to anybody have been looked at, or the lowest whom none names. Assumes nothing.
use mathlib.Core.Path.{ap}
use Prim.Native.Nat.{ℕ}
use lib.Dec.{eqb}
use lib.ListN.{length}
use Rattle.sets.specs.Members.{members}
use Rattle.few_permits.specs.Rows.{permit_row}
use Rattle.std.specs.Option.{unwrap_or}
use Rattle.few_permits.proofs.EachLaws.{nobody_found}
use Rattle.many_permits.proofs.NamedLaws.{none_left, lowest_unnamed}
use Rattle.many_permits.proofs.writer_fits.Goals as goal

pub returns-then-is_empty : goal.returns-then-is_empty
returns-then-is_empty c = let a = c.args in
    let h = a.holders.now in
    let g = a.givers.now in
    ap (λ (b : ℕ). eqb b 0) (none_left (length a.permits.now) (permit_row a.permits.now) (members h.readers) (members h.writers) (members g.reading) (members g.writing) a.writer
    (members c.unserved-left.result) c.unserved-left.ensures c.is_empty.result c.is_empty.ensures c.if-is_empty.true)

pub returns : goal.returns
returns c = let a = c.args in
    let h = a.holders.now in
    let g = a.givers.now in
    let left = c.unserved-left in
    let found = c.lowest_blocker in
    nobody_found found.result _ c.is_none.result
    (lowest_unnamed (length a.permits.now) (permit_row a.permits.now) (members h.readers) (members h.writers) (members g.reading) (members g.writing) a.writer
    (members left.result) left.ensures (members c.named-named.result) c.named-named.ensures (unwrap_or found.result 0) found.ensures.lowest)
    found.ensures.numbered c.is_none.ensures
