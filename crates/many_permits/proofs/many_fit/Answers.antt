-- `many_permits::many_fit` meets its contract: with the givers of the permits to anybody, what is found is what is asked of the entry. Assumes nothing.
use borrow.Author.Rules.{rules}
use Prim.Native.Nat.{ℕ}
use lib.Dec.{eqb}
use lib.ListN.{length}
use Rattle.sets.specs.Members.{members}
use Rattle.few_permits.specs.Rows.{permit_row}
use Rattle.few_permits.proofs.EachLaws.{each_passes}
use Rattle.many_permits.specs.Named.{blocker_left, writers_fit}
use Rattle.many_permits.proofs.NamedLaws.{writers-entry}
use Rattle.many_permits.proofs.many_fit.Goals as goal

pub returns : goal.returns
unfolding writers_fit
returns c = let a = c.args in
    let h = a.holders.now in
    let n = length a.permits.now in
    let reading = c.givers_to_anybody-reading in
    let writing = c.givers_to_anybody-writing in
    let u = members reading.result in
    let v = members writing.result in
    writers-entry n (permit_row a.permits.now) (members h.readers) (members h.writers) u v reading.ensures writing.ensures c.each_writer.result
    (each_passes _ (members h.writers) c.each_writer.result c.each_writer.ensures (λ (k : ℕ). eqb (blocker_left n (permit_row a.permits.now) (members h.readers) (members h.writers) u v k) 0) (λ k b l e. search rules))
