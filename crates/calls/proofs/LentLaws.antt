-- Memory that begins with a sound window: the window's bytes, lent. Assumes nothing.
use mathlib.Core.Path.{◌≡◌, sym, ◌∙◌}
use mathlib.Core.Bool.{true}
use mathlib.Core.List.{List, ◌++◌}
use Prim.Native.Nat.{ℕ, ◌≤◌}
use lib.ListN.{length, take, drop, take-append-drop}
use borrow.Author.Tests.{leb-true}
use Rattle.rules.specs.Window.{limits}
use Rattle.rules.specs.Calls.{Call}
use Rattle.rules.specs.Refusals.{step}
use Rattle.layout.specs.Codec.{window_size, decode}
use Rattle.layout.specs.Memory.{sound_bytes, long, sound_memory, perform}
use Rattle.layout.proofs.MemoryLaws.{sound-long, sound_front}
use Rattle.replies.specs.declared.Reply.{Reply}
use Rattle.replies.specs.Gives.{Gives, written}
use Rattle.replies.proofs.GiveLaws.{on_memory}

module _ (mem : List ℕ) (h : sound_memory mem ≡ true) where
  pub lent_room : window_size ≤ length mem
  unfolding long
  lent_room = leb-true window_size (length mem) (sound-long mem h)

  -- bytes that are those of the window
  pub lent_sound : {bs : List ℕ} → bs ≡ take window_size mem → sound_bytes bs ≡ true
  lent_sound e = rw e (sound_front mem h)

-- the window lent to be looked at alone
pub looked_at : (mem : List ℕ) (call : Call) → sound_memory mem ≡ true → (bs : List ℕ) → bs ≡ take window_size mem → {r : Reply} → Gives (written (step limits (decode bs) call)) r bs → Gives (perform mem call) r mem
looked_at mem call h bs q {r} g = let e = on_memory mem call h r (take window_size mem) (rw q at g) in
    record { answer = e.answer; number = e.number; bytes = sym (take-append-drop window_size mem) ∙ e.bytes }

-- the window lent to be written
pub stepped : (mem : List ℕ) (call : Call) → sound_memory mem ≡ true → (bs : List ℕ) → bs ≡ take window_size mem → (r : Reply) (after : List ℕ) → Gives (written (step limits (decode bs) call)) r after
    → Gives (perform mem call) r (after ++ drop window_size mem)
stepped mem call h bs q r after g = on_memory mem call h r after (rw q at g)
