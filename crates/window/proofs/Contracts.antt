-- The contracts of the exported functions, as what is known of a call made through them. Assumes nothing.
use mathlib.Core.Path.{◌≡◌}
use mathlib.Core.List.{List}
use Prim.Native.Nat.{ℕ}
use contract.Lifetimes.{Lfts}
use denote.Triple.Clauses.{AtExit}
use borrow.Fn.Kinds.{Dens, ended_of}
use Rattle.rules.specs.Calls.{Call, Open, Initiate, Begin, Complete, Lock, Read, Write, Permit, Delegate, Depend, Commit, Abort, Status, Parent, Value}
use Rattle.layout.specs.Memory.{perform}
use Rattle.replies.specs.declared.Reply.{Reply}
use Rattle.replies.specs.Gives.{Gives}
use Rattle.window.proofs.window_open.Kinds as open-kinds
use Rattle.window.proofs.window_open.Reads as open-contract
use Rattle.window.proofs.window_initiate.Kinds as initiate-kinds
use Rattle.window.proofs.window_initiate.Reads as initiate-contract
use Rattle.window.proofs.window_begin.Kinds as begin-kinds
use Rattle.window.proofs.window_begin.Reads as begin-contract
use Rattle.window.proofs.window_complete.Kinds as complete-kinds
use Rattle.window.proofs.window_complete.Reads as complete-contract
use Rattle.window.proofs.window_lock.Kinds as lock-kinds
use Rattle.window.proofs.window_lock.Reads as lock-contract
use Rattle.window.proofs.window_read.Kinds as read-kinds
use Rattle.window.proofs.window_read.Reads as read-contract
use Rattle.window.proofs.window_write.Kinds as write-kinds
use Rattle.window.proofs.window_write.Reads as write-contract
use Rattle.window.proofs.window_permit.Kinds as permit-kinds
use Rattle.window.proofs.window_permit.Reads as permit-contract
use Rattle.window.proofs.window_delegate.Kinds as delegate-kinds
use Rattle.window.proofs.window_delegate.Reads as delegate-contract
use Rattle.window.proofs.window_depend.Kinds as depend-kinds
use Rattle.window.proofs.window_depend.Reads as depend-contract
use Rattle.window.proofs.window_commit.Kinds as commit-kinds
use Rattle.window.proofs.window_commit.Reads as commit-contract
use Rattle.window.proofs.window_abort.Kinds as abort-kinds
use Rattle.window.proofs.window_abort.Reads as abort-contract
use Rattle.window.proofs.window_status.Kinds as status-kinds
use Rattle.window.proofs.window_status.Reads as status-contract
use Rattle.window.proofs.window_parent.Kinds as parent-kinds
use Rattle.window.proofs.window_parent.Reads as parent-contract
use Rattle.window.proofs.window_value.Kinds as value-kinds
use Rattle.window.proofs.window_value.Reads as value-contract

-- a call made through its function: memory before, call, reply and memory afterwards, of which the function's contract (`Learnt`) holds.
-- a are the function's arguments, s what the memory is at the end. A function that takes the memory only to read cannot change it: its contract speaks
-- of the memory at entry alone, and that is the memory afterwards (read, status, parent, value). A call without a function is refused here
unfoldable pub Made : List ℕ → Call → Reply → List ℕ → Type 0
Made mem (Open n) r after = (κs : Lfts 1) × (a : Dens κs open-kinds.ps) × (s : AtExit (ended_of 1 open-kinds.ps open-kinds.r) κs) × open-contract.Learnt κs a r s
    × (a.0.now ≡ mem) × (Open a.1.0 ≡ Open n) × (s.0.now ≡ after)
Made mem (Initiate p) r after = (κs : Lfts 1) × (a : Dens κs initiate-kinds.ps) × (s : AtExit (ended_of 1 initiate-kinds.ps initiate-kinds.r) κs) × initiate-contract.Learnt κs a r s
    × (a.0.now ≡ mem) × (Initiate a.1.0 ≡ Initiate p) × (s.0.now ≡ after)
Made mem (Begin c) r after = (κs : Lfts 1) × (a : Dens κs begin-kinds.ps) × (s : AtExit (ended_of 1 begin-kinds.ps begin-kinds.r) κs) × begin-contract.Learnt κs a r s
    × (a.0.now ≡ mem) × (Begin a.1.0 ≡ Begin c) × (s.0.now ≡ after)
Made mem (Complete c) r after = (κs : Lfts 1) × (a : Dens κs complete-kinds.ps) × (s : AtExit (ended_of 1 complete-kinds.ps complete-kinds.r) κs) × complete-contract.Learnt κs a r s
    × (a.0.now ≡ mem) × (Complete a.1.0 ≡ Complete c) × (s.0.now ≡ after)
Made mem (Lock c e m) r after = (κs : Lfts 1) × (a : Dens κs lock-kinds.ps) × (s : AtExit (ended_of 1 lock-kinds.ps lock-kinds.r) κs) × lock-contract.Learnt κs a r s
    × (a.0.now ≡ mem) × (Lock a.1.0 a.1.1.0 a.1.1.1.0 ≡ Lock c e m) × (s.0.now ≡ after)
Made mem (Read c e) r after = (κs : Lfts 1) × (a : Dens κs read-kinds.ps) × (s : AtExit (ended_of 1 read-kinds.ps read-kinds.r) κs) × read-contract.Learnt κs a r s
    × (a.0.now ≡ mem) × (Read a.1.0 a.1.1.0 ≡ Read c e) × (a.0.now ≡ after)
Made mem (Write c e v) r after = (κs : Lfts 1) × (a : Dens κs write-kinds.ps) × (s : AtExit (ended_of 1 write-kinds.ps write-kinds.r) κs) × write-contract.Learnt κs a r s
    × (a.0.now ≡ mem) × (Write a.1.0 a.1.1.0 a.1.1.1.0 ≡ Write c e v) × (s.0.now ≡ after)
Made mem (Permit g t e o) r after = (κs : Lfts 1) × (a : Dens κs permit-kinds.ps) × (s : AtExit (ended_of 1 permit-kinds.ps permit-kinds.r) κs) × permit-contract.Learnt κs a r s
    × (a.0.now ≡ mem) × (Permit a.1.0 a.1.1.0 a.1.1.1.0 a.1.1.1.1.0 ≡ Permit g t e o) × (s.0.now ≡ after)
Made mem (Delegate f t e) r after = (κs : Lfts 1) × (a : Dens κs delegate-kinds.ps) × (s : AtExit (ended_of 1 delegate-kinds.ps delegate-kinds.r) κs) × delegate-contract.Learnt κs a r s
    × (a.0.now ≡ mem) × (Delegate a.1.0 a.1.1.0 a.1.1.1.0 ≡ Delegate f t e) × (s.0.now ≡ after)
Made mem (Depend k l f) r after = (κs : Lfts 1) × (a : Dens κs depend-kinds.ps) × (s : AtExit (ended_of 1 depend-kinds.ps depend-kinds.r) κs) × depend-contract.Learnt κs a r s
    × (a.0.now ≡ mem) × (Depend a.1.0 a.1.1.0 a.1.1.1.0 ≡ Depend k l f) × (s.0.now ≡ after)
Made mem (Commit c) r after = (κs : Lfts 1) × (a : Dens κs commit-kinds.ps) × (s : AtExit (ended_of 1 commit-kinds.ps commit-kinds.r) κs) × commit-contract.Learnt κs a r s
    × (a.0.now ≡ mem) × (Commit a.1.0 ≡ Commit c) × (s.0.now ≡ after)
Made mem (Abort c) r after = (κs : Lfts 1) × (a : Dens κs abort-kinds.ps) × (s : AtExit (ended_of 1 abort-kinds.ps abort-kinds.r) κs) × abort-contract.Learnt κs a r s
    × (a.0.now ≡ mem) × (Abort a.1.0 ≡ Abort c) × (s.0.now ≡ after)
Made mem (Status c) r after = (κs : Lfts 1) × (a : Dens κs status-kinds.ps) × (s : AtExit (ended_of 1 status-kinds.ps status-kinds.r) κs) × status-contract.Learnt κs a r s
    × (a.0.now ≡ mem) × (Status a.1.0 ≡ Status c) × (a.0.now ≡ after)
Made mem (Parent c) r after = (κs : Lfts 1) × (a : Dens κs parent-kinds.ps) × (s : AtExit (ended_of 1 parent-kinds.ps parent-kinds.r) κs) × parent-contract.Learnt κs a r s
    × (a.0.now ≡ mem) × (Parent a.1.0 ≡ Parent c) × (a.0.now ≡ after)
Made mem (Value e) r after = (κs : Lfts 1) × (a : Dens κs value-kinds.ps) × (s : AtExit (ended_of 1 value-kinds.ps value-kinds.r) κs) × value-contract.Learnt κs a r s
    × (a.0.now ≡ mem) × (Value a.1.0 ≡ Value e) × (a.0.now ≡ after)

-- it gives what `perform` gives
moved : {m mem : List ℕ} {d c : Call} {r : Reply} {l after : List ℕ} → Gives (perform m d) r l → m ≡ mem → d ≡ c → l ≡ after → Gives (perform mem c) r after
moved x e f g = rw (← e, ← f, ← g) x

pub made_gives : (mem : List ℕ) (c : Call) (r : Reply) (after : List ℕ) → Made mem c r after → Gives (perform mem c) r after
unfolding Made
made_gives mem (Open n) r after (κs, a, s, x, h, i, j) = moved x h i j
made_gives mem (Initiate p) r after (κs, a, s, x, h, i, j) = moved x h i j
made_gives mem (Begin c) r after (κs, a, s, x, h, i, j) = moved x h i j
made_gives mem (Complete c) r after (κs, a, s, x, h, i, j) = moved x h i j
made_gives mem (Lock c e m) r after (κs, a, s, x, h, i, j) = moved x h i j
made_gives mem (Read c e) r after (κs, a, s, x, h, i, j) = moved x h i j
made_gives mem (Write c e v) r after (κs, a, s, x, h, i, j) = moved x h i j
made_gives mem (Permit g t e o) r after (κs, a, s, x, h, i, j) = moved x h i j
made_gives mem (Delegate f t e) r after (κs, a, s, x, h, i, j) = moved x h i j
made_gives mem (Depend k l f) r after (κs, a, s, x, h, i, j) = moved x h i j
made_gives mem (Commit c) r after (κs, a, s, x, h, i, j) = moved x h i j
made_gives mem (Abort c) r after (κs, a, s, x, h, i, j) = moved x h i j
made_gives mem (Status c) r after (κs, a, s, x, h, i, j) = moved x h i j
made_gives mem (Parent c) r after (κs, a, s, x, h, i, j) = moved x h i j
made_gives mem (Value e) r after (κs, a, s, x, h, i, j) = moved x h i j
