-- The answer of a refusal, of a call that may be refused, and the reply that it is. Assumes nothing.
use Rattle.std.specs.Prelude.{ℕ, Result, Ok, Err}
use Rattle.replies.specs.declared.Refusal.{Refusal}
use Rattle.replies.specs.declared.Refusal.TheVariants.{UnsoundMemory, EntryCount, NoChange, NoEntry, NoSuchValue, SameChange, Status, NoLock, Returns, NoPermit, NoRoom, WaitsElsewhere, BrokenLine}
use Rattle.replies.specs.declared.Reply.{Reply}

-- the number of each refusal: its answer
abbrev pub code : Refusal → ℕ
code UnsoundMemory = 1
code EntryCount = 2
code NoChange = 3
code NoEntry = 4
code NoSuchValue = 5
code SameChange = 6
code Status = 7
code NoLock = 8
code Returns = 9
code NoPermit = 10
code NoRoom = 11
code WaitsElsewhere = 12
code BrokenLine = 30

-- the refusal's number, and 0 where a call is not refused
abbrev pub refused : {T : Type 0} → Result T Refusal → ℕ
refused (Ok x) = 0
refused (Err e) = code e

-- the reply, or the refusal's number with second number 0
abbrev pub reply_of : Result Reply Refusal → Reply
reply_of (Ok r) = r
reply_of (Err e) = record { answer = code e; number = 0 }
