-- `locking::lock_blocker` meets its contract: of those that clash, the lowest that has given no permit. Assumes nothing.
use native.Mathlib.Nat.{lt_of_le_of_lt}
use lib.Dec.{lit≤}
use Rattle.std.specs.Option.{unwrap_or}
use Rattle.sets.specs.Members.{members}
use Rattle.locking.proofs.ArgumentLaws.{lock_known}
use Rattle.locking.proofs.LockLaws.{blocker_known}
use Rattle.locking.proofs.lock_blocker.Goals as goal

pub returns : goal.returns
returns c = let s = c in
    record {
      lowest = blocker_known s.args.view.bytes.now s.args.view.sound s.args.change s.args.entry s.args.mode _ (lock_known s.args.view.bytes.now s.args.view.sound s.args.change s.args.entry s.args.mode s.requires.mode_value).2 c.permits-count.ensures.value
          (members c.clashing-clashing.result) (members c.givers-givers.result) (unwrap_or c.lowest_blocker.result 0) c.clashing-clashing.ensures c.givers-givers.ensures c.lowest_blocker.ensures.lowest;
      numbered = c.lowest_blocker.ensures.numbered;
    }

pub overflow_cast-c : goal.overflow_cast-c
overflow_cast-c c = record { fits = (lock_known c.args.view.bytes.now c.args.view.sound c.args.change c.args.entry c.args.mode c.requires.mode_value).0 }

pub overflow_cast-e : goal.overflow_cast-e
overflow_cast-e c = record { fits = (lock_known c.args.view.bytes.now c.args.view.sound c.args.change c.args.entry c.args.mode c.requires.mode_value).1 }

pub overflow_cast-m : goal.overflow_cast-m
overflow_cast-m c = record { fits = lt_of_le_of_lt (lock_known c.args.view.bytes.now c.args.view.sound c.args.change c.args.entry c.args.mode c.requires.mode_value).3 (lit≤ tt) }
