-- `sets::ChangeSet::load` meets its contract: each word is gathered from eight bytes. Assumes nothing.
use mathlib.Core.Path.{sym, ◌∙◌}
use Prim.Native.Nat.{◌+◌}
use borrow.Author.Tests.{leb-true, leb-false}
use lib.ListN.{length}
use Rattle.sets.proofs.Bytes.{loaded_short, loaded_words}
use Rattle.sets.proofs.ChangeSet.load.Goals as goal

pub returns-then-not-has_room : goal.returns-then-not-has_room
returns-then-not-has_room c = let a = c.args in
    let short = leb-false (a.at + 32) (length a.bytes.now) (sym c.has_room.ensures ∙ c.if-not-has_room.true) in λ k. c.empty.ensures k ∙ sym (loaded_short a.bytes.now a.at short k)

pub returns : goal.returns
returns c = let a = c.args in
    let room = leb-true (a.at + 32) (length a.bytes.now) (sym c.has_room.ensures ∙ c.if-not-has_room.false) in
    loaded_words a.bytes.now a.at _ _ _ _ room c.read_u64.ensures c.read_u64-2.ensures c.read_u64-3.ensures c.read_u64-4.ensures
