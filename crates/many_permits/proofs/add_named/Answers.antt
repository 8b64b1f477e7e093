-- `many_permits::add_named` meets its contract: the taker is added where the writer gives, the giver where it takes. Assumes nothing.
use mathlib.Core.Path.{sym, ap, ◌∙◌, ap₂}
use mathlib.Core.Bool.{Bool, ◌||◌, or-false}
use Prim.Native.Nat.{ℕ}
use lib.ListN.{get_or}
use Rattle.rules.specs.Locks.{make_permit}
use Rattle.layout.specs.Records.{permit_at}
use Rattle.sets.specs.Members.{members}
use Rattle.beside.specs.Beside.{contains_held}
use Rattle.many_permits.specs.Named.{involves}
use Rattle.many_permits.proofs.NamedLaws.{named_added, names_none}
use Rattle.many_permits.proofs.add_named.Goals as goal

pub returns-then-giver-writer : goal.returns-then-giver-writer
unfolding permit_at make_permit
returns-then-giver-writer c k = let a = c.args in
    let h = a.holders.now in
    let served = c.contains_held in
    let write = c.contains in
    let byte : ℕ → ℕ = λ i. get_or a.permit.now i 0 in
    c.add_if-then-giver-writer.ensures k ∙ rw (c.add_if.ensures k)
    (named_added (members h.readers) (members h.writers) a.writer k (byte 1) (byte 2) (byte 0) (byte 3) (members a.s k) served.result write.result (served.ensures ∙ ap₂ (contains_held (byte 3)) c.has-reads.ensures c.has-writes.ensures) write.ensures)

pub returns : goal.returns
unfolding permit_at involves
returns c k = let a = c.args in
    let h = a.holders.now in
    sym (ap (λ (b : Bool). members a.s k || b) (names_none (members h.readers) (members h.writers) a.writer k (permit_at a.permit.now 0) c.if-giver-writer.false) ∙ or-false (members a.s k))
