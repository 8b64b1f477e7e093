-- `sets::ChangeSet::store` meets its contract: the four words are put in place one after the other. Assumes nothing.
use mathlib.Core.Path.{sym, ◌∙◌}
use Prim.Native.Nat.{◌+◌}
use borrow.Author.Tests.{leb-true, leb-false}
use lib.ListN.{length}
use Rattle.sets.specs.Members.{members}
use Rattle.sets.proofs.Bytes.{stored_words, stored_short}
use Rattle.sets.proofs.ChangeSet.store.Goals as goal

pub returns-then-not-has_room : goal.returns-then-not-has_room
returns-then-not-has_room c = let a = c.args in
    sym (stored_short (members a.self) a.bytes.now a.at (leb-false (a.at + 32) (length a.bytes.now) (sym c.has_room.ensures ∙ c.if-not-has_room.true)))

pub returns : goal.returns
returns c =
    let a = c.args in
    let room = leb-true (a.at + 32) (length a.bytes.now) (sym c.has_room.ensures ∙ c.if-not-has_room.false) in
    stored_words a.self a.bytes.now _ _ _ _ a.at room c.write_u64.ensures c.write_u64-2.ensures c.write_u64-3.ensures c.write_u64-4.ensures
