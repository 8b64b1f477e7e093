-- `few_permits::few_fit` meets its contract: nobody is in the way of any writer. Assumes nothing.
use borrow.Author.Rules.{rules}
use Prim.Native.Nat.{ℕ}
use lib.Dec.{eqb}
use lib.ListN.{length}
use Rattle.sets.specs.Members.{members}
use Rattle.beside.specs.Beside.{writer_blocker, entry_fits}
use Rattle.few_permits.specs.Rows.{permit_row}
use Rattle.few_permits.proofs.EachLaws.{each_passes}
use Rattle.few_permits.proofs.few_fit.Goals as goal

pub returns : goal.returns
unfolding entry_fits
returns c = let a = c.args in
    let h = a.holders.now in
    each_passes _ (members h.writers) c.each_writer.result c.each_writer.ensures (λ (k : ℕ). eqb (writer_blocker (length a.permits.now) (permit_row a.permits.now) (members h.readers) (members h.writers) k) 0) (λ k b l e. search rules)
