-- `few_permits::note` meets its contract: the writer gives to anybody, it gives to one, or another gives. Assumes nothing.
use mathlib.Core.Path.{◌∙◌, ap₂}
use Prim.Native.Nat.{ℕ}
use lib.ListN.{get_or}
use Rattle.rules.specs.Locks.{make_permit}
use Rattle.layout.specs.Records.{permit_at}
use Rattle.sets.specs.Members.{members}
use Rattle.beside.specs.Beside.{contains_held}
use Rattle.few_permits.proofs.NoteLaws.{anybody_noted, taker_noted, giver_noted}
use Rattle.few_permits.proofs.note.Goals as goal

pub returns-then-taker-eq0 : goal.returns-then-taker-eq0
unfolding permit_at make_permit members
returns-then-taker-eq0 c = let a = c.args in
    let byte : ℕ → ℕ = λ i. get_or a.permit.now i 0 in
    let r = c.note_set in
    let w = c.note_set-then-taker-eq0 in
    λ k n. anybody_noted (members a.holders.now.readers) (members a.holders.now.writers) a.writer k (byte 1) (byte 2) (byte 0) (byte 3) (members a.noted.now k) (members w.new.noted k) n
    c.if-giver-writer.true c.if-taker-eq0.true c.contains.result c.contains-write.result (members r.new.noted k) c.contains.ensures c.contains-write.ensures (r.ensures k) (w.ensures k)

pub returns-then-giver-writer : goal.returns-then-giver-writer
unfolding permit_at make_permit members
returns-then-giver-writer c = let a = c.args in
    let byte : ℕ → ℕ = λ i. get_or a.permit.now i 0 in
    λ k n. taker_noted (members a.holders.now.readers) (members a.holders.now.writers) a.writer k (byte 1) (byte 2) (byte 0) (byte 3) (members a.noted.now k) (members c.note_one.new.noted k) n
    c.if-giver-writer.true c.if-taker-eq0.false c.contains_held.result (c.contains_held.ensures ∙ ap₂ (contains_held (byte 3)) c.among-reads.ensures c.among-writes.ensures) (c.note_one.ensures k)

pub returns : goal.returns
unfolding permit_at make_permit members
returns c = let a = c.args in
    let byte : ℕ → ℕ = λ i. get_or a.permit.now i 0 in
    λ k _. giver_noted (members a.holders.now.readers) (members a.holders.now.writers) a.writer k (byte 1) (byte 2) (byte 0) (byte 3) (members a.noted.now k) (members c.note_one-2.new.noted k)
    c.if-giver-writer.false c.contains-write.result c.contains-write.ensures (c.note_one-2.ensures k)
