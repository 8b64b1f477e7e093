-- `locks::EntryLocks::with_mode` meets its contract: the change leaves both sets and joins the one of its mode. Assumes nothing.
use mathlib.Core.Path.{◌≡◌}
use native.Mathlib.Omega.{arith}
use Rattle.locks.proofs.RowLaws.{lock_joined, lock_left}
use borrow.Author.Rules.{rules}
use Rattle.locks.proofs.EntryLocks.with_mode.Goals as goal

pub returns-in-Some-Read : goal.returns-in-Some-Read
returns-in-Some-Read c row v s l = let a = c.args in
    let read = rw c.in-Some-Read.is at c.in-Some-Read.field-0-is in
    let one : v ≡ 1 = rw (c.in-Some-Read.is, read) at s in
    record {
      readers = lock_joined row a.change v 1 (search rules) _ _ l.readers c.without-readers.ensures _ c.add.ensures one;
      writers = lock_left row a.change v 2 (search rules) _ _ l.writers c.without-writers.ensures (omega arith);
    }

pub returns-in-Some-Write : goal.returns-in-Some-Write
returns-in-Some-Write c row v s l = let a = c.args in
    let write = rw c.in-Some-Write.is at c.in-Some-Write.field-0-is in
    let two : v ≡ 2 = rw (c.in-Some-Write.is, write) at s in
    record {
      readers = lock_left row a.change v 1 (search rules) _ _ l.readers c.without-readers.ensures (omega arith);
      writers = lock_joined row a.change v 2 (search rules) _ _ l.writers c.without-writers.ensures _ c.add-in-Some-Write.ensures two;
    }

pub returns-in-None : goal.returns-in-None
returns-in-None c row v s l = let a = c.args in
    let none = rw c.in-None.is at s in
    record {
      readers = lock_left row a.change v 1 (search rules) _ _ l.readers c.without-readers.ensures none.0;
      writers = lock_left row a.change v 2 (search rules) _ _ l.writers c.without-writers.ensures none.1;
    }
