-- From a call's refusals and effect to its step, and from the step to the call on lent memory. Assumes nothing.
use mathlib.Core.Path.{◌≡◌, refl, sym, ◌∙◌, ap}
use mathlib.Core.Logic.{◌≢◌}
use mathlib.Core.Bool.{true, false}
use mathlib.Core.List.{List, ◌++◌}
use Prim.Native.Nat.{ℕ, zero, suc}
use lib.ListN.{take, drop}
use Rattle.rules.specs.Window.{limits, Window}
use Rattle.rules.specs.Calls.{Call, done, unchanged, blocked}
use Rattle.rules.specs.Effects.{effect}
use Rattle.rules.specs.Refusals.{checks, first_failed, settle, step}
use Rattle.rules.specs.Events.{is_open}
use Rattle.rules.proofs.SoundStep.{Passed, passed, codes}
use Rattle.layout.specs.Codec.{window_size, decode, encode}
use Rattle.layout.specs.Memory.{sound_bytes, sound_memory, window_of, lay_into, hand_back, perform}
use Rattle.layout.proofs.MemoryLaws.{bytes_again, perform-sound, perform_unsound}
use Rattle.std.specs.Prelude.{Err}
use Rattle.replies.specs.declared.Reply.{Reply}
use Rattle.replies.specs.declared.Refusal.{Refusal}
use Rattle.replies.specs.declared.Refusal.TheVariants.{UnsoundMemory}
use Rattle.replies.specs.Refused.{code, reply_of}
use Rattle.replies.proofs.RefusedLaws.{code_some}
use Rattle.replies.specs.Gives.{Gives, written}

-- ON A WINDOW'S BYTES
-- done, with the bytes of a window left behind
pub given-done : (k : ℕ) (W : Window) (r : Reply) (after : List ℕ) → (r.answer ≡ 0) × (r.number ≡ k) → after ≡ encode W → Gives (written (done k W)) r after
unfolding written done
given-done k W r after q e = record { answer = q.0; number = q.1; bytes = e }

-- blocked, with the bytes of another window left behind
pub given-blocked : (k : ℕ) (W : Window) (r : Reply) (after : List ℕ) → (r.answer ≡ 20) × (r.number ≡ k) → after ≡ encode W → Gives (written (blocked k W)) r after
unfolding written blocked
given-blocked k W r after q e = record { answer = q.0; number = q.1; bytes = e }

module _ (bs : List ℕ) (s : sound_bytes bs ≡ true) where
  -- an outcome that leaves the window
  pub left : (a k : ℕ) (r : Reply) → r.answer ≡ a → r.number ≡ k → Gives (written (unchanged a k (decode bs))) r bs
  unfolding written unchanged
  left a k r e q = record { answer = e; number = q; bytes = sym (bytes_again bs s) }

  -- done, and nothing changed
  pub looked : (k : ℕ) (r : Reply) → (r.answer ≡ 0) × (r.number ≡ k) → Gives (written (done k (decode bs))) r bs
  looked k r e = given-done k (decode bs) r bs e (sym (bytes_again bs s))

  -- a refusal that applies
  pub turned_back : (call : Call) (code : ℕ) (r : Reply) → code ≡ first_failed (checks limits (decode bs) call) → code ≢ 0 → (r.answer ≡ code) × (r.number ≡ 0)
      → Gives (written (step limits (decode bs) call)) r bs
  unfolding step settle
  turned_back call code r e n q = rw (sym e) (go code n q.0)
    where
      go : (a : ℕ) → a ≢ 0 → r.answer ≡ a → Gives (written (settle a (decode bs) (effect (decode bs) call))) r bs
      go zero n p = absurd (n refl)
      go (suc a) n p = left (suc a) 0 r p q.1

  -- the same, by the code's name for it
  pub refused_back : (call : Call) (e : Refusal) → code e ≡ first_failed (checks limits (decode bs) call) → Gives (written (step limits (decode bs) call)) (reply_of (Err e)) bs
  refused_back call e q = turned_back call (code e) (reply_of (Err e)) q (code_some e) (refl, refl)

-- no refusal applies: each check is passed
pub unrefused : (W : Window) (call : Call) → first_failed (checks limits W call) ≡ 0 → Passed (checks limits W call)
unrefused W call = passed (checks limits W call) (codes limits W call)

-- and the step is the effect
pub let_through : (W : Window) (call : Call) {r : Reply} {after : List ℕ} → 0 ≡ first_failed (checks limits W call)
    → Gives (written (effect W call)) r after → Gives (written (step limits W call)) r after
unfolding step settle
let_through W call e g = rw (sym e) g

-- ON LENT MEMORY
-- handed back as it was
pub handed_back : (mem : List ℕ) (a : ℕ) (r : Reply) → (r.answer ≡ a) × (r.number ≡ 0) → Gives (hand_back mem a) r mem
unfolding hand_back
handed_back mem a r e = record { answer = e.0; number = e.1; bytes = refl }

module _ (mem : List ℕ) (call : Call) where
  -- memory that is not a sound window
  pub unsound : sound_memory mem ≡ false → is_open call ≡ false → (r : Reply) → (r.answer ≡ 1) × (r.number ≡ 0) → Gives (perform mem call) r mem
  unsound h o r e = rw (perform_unsound mem call h o) (handed_back mem 1 r e)

  -- the same, by the code's name for it
  pub unsound_back : sound_memory mem ≡ false → is_open call ≡ false → Gives (perform mem call) (reply_of (Err UnsoundMemory)) mem
  unsound_back h o = unsound h o (reply_of (Err UnsoundMemory)) (refl, refl)

  -- the window at its front, lent and handed back
  pub on_memory : sound_memory mem ≡ true → (r : Reply) (after : List ℕ) → Gives (written (step limits (window_of mem) call)) r after
      → Gives (perform mem call) r (take 0 mem ++ (after ++ drop window_size (drop 0 mem)))
  unfolding written lay_into
  on_memory h r after g = rw (perform-sound mem call h) (record {
    answer = g.answer;
    number = g.number;
    bytes = ap (λ l. l ++ drop window_size mem) g.bytes;
  })
