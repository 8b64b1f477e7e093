-- What open does on lent memory. Assumes nothing.
use mathlib.Core.Path.{◌≡◌, sym, ◌∙◌, ap}
use mathlib.Core.Bool.{true, false, cond, ◌||◌}
use mathlib.Core.List.{List, ◌++◌}
use Prim.Native.Nat.{ℕ, ◌<◌, ◌≤◌}
use native.Mathlib.Omega.{arith}
use lib.Dec.{ltb}
use lib.ListN.{length, take, drop}
use borrow.Author.Tests.{le-leb, lt-leb}
use Rattle.rules.specs.Base.{outside}
use Rattle.rules.specs.Window.{limits, fresh}
use Rattle.rules.specs.Calls.{Open}
use Rattle.rules.proofs.BaseLaws.{exceeds_ltb}
use Rattle.rules.proofs.RuleLaws.{open_is}
use Rattle.layout.specs.Codec.{window_size, encode}
use Rattle.layout.specs.Memory.{long, perform}
use Rattle.layout.proofs.MemoryLaws.{perform_short, perform_still, open_answered, open_numbered, opened_bytes}
use Rattle.replies.specs.declared.Reply.{Reply}
use Rattle.replies.specs.Gives.{Gives}
use Rattle.replies.proofs.GiveLaws.{handed_back}

module _ (mem : List ℕ) (n : ℕ) where
  pub open_short : length mem < window_size → (r : Reply) → (r.answer ≡ 1) × (r.number ≡ 0) → Gives (perform mem (Open n)) r mem
  unfolding long
  open_short h r e = rw (perform_short mem (Open n) (lt-leb window_size (length mem) h)) (handed_back mem 1 r e)

  module _ (room : window_size ≤ length mem) where
    is_long : long mem ≡ true
    unfolding long
    is_long = le-leb window_size (length mem) room

    answered : (perform mem (Open n)).answer ≡ cond (outside 1 256 n) 2 0
    unfolding outside limits
    answered = open_answered mem (fresh 0) n is_long ∙ open_is limits (fresh 0) n ∙ ap (λ b. cond (ltb n 1 || b) 2 0) (exceeds_ltb n 256)

    pub open_refused : outside 1 256 n ≡ true → (r : Reply) → (r.answer ≡ 2) × (r.number ≡ 0) → Gives (perform mem (Open n)) r mem
    open_refused o r e = let a : (perform mem (Open n)).answer ≡ 2 = answered ∙ ap (λ b. cond b 2 0) o in
        record { answer = e.0 ∙ sym a; number = e.1 ∙ sym (open_numbered mem n); bytes = sym ((perform_still mem (Open n)).same (λ z. omega (arith, a, z)) (λ z. omega (arith, a, z))) }

    pub open_done : outside 1 256 n ≡ false → (w : List ℕ) → w ≡ encode (fresh n) → (r : Reply) → (r.answer ≡ 0) × (r.number ≡ 0) → Gives (perform mem (Open n)) r (take 0 mem ++ (w ++ drop window_size (drop 0 mem)))
    open_done o w q r e = let a : (perform mem (Open n)).answer ≡ 0 = answered ∙ ap (λ b. cond b 2 0) o in
        record { answer = e.0 ∙ sym a; number = e.1 ∙ sym (open_numbered mem n); bytes = ap (λ l. l ++ drop window_size mem) q ∙ sym (opened_bytes mem n a).bytes }
