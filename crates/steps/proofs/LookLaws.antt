-- Calls that only look. Assumes nothing.
use mathlib.Core.Path.{◌≡◌, ◌∙◌}
use mathlib.Core.Bool.{true}
use mathlib.Core.List.{List}
use Prim.Native.Nat.{ℕ}
use Rattle.rules.specs.Calls.{Call, done}
use Rattle.rules.specs.Effects.{effect}
use Rattle.layout.specs.Codec.{decode}
use Rattle.layout.specs.Memory.{sound_bytes}
use Rattle.replies.specs.declared.Reply.{Reply}
use Rattle.replies.specs.Gives.{Gives, written}
use Rattle.replies.proofs.GiveLaws.{looked}

-- the second number x is the k that the call looks for
pub looks : (bs : List ℕ) → sound_bytes bs ≡ true → (r : Reply) (x : ℕ) → (r.answer ≡ 0) × (r.number ≡ x) → (call : Call) {k : ℕ} → x ≡ k → effect (decode bs) call ≡ done k (decode bs)
    → Gives (written (effect (decode bs) call)) r bs
looks bs s r x q call {k} h e = rw e (looked bs s k r (q.0, q.1 ∙ h))
