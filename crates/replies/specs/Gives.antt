-- What a function's reply and the bytes afterwards are: those of a call by the rules, or of a call on lent memory. Assumes nothing.
use Rattle.std.specs.Prelude.{◌≡◌, List, ℕ}
use Rattle.rules.specs.Calls.{Reply as RuleReply, Outcome}
use Rattle.layout.specs.Codec.{encode}
use Rattle.replies.specs.declared.Reply.{Reply}

-- the answer, the second number and every byte afterwards are those that a call gives
pub record Gives (o : RuleReply (List ℕ)) (r : Reply) (after : List ℕ) : Type 0 where
  pub answer : r.answer ≡ o.answer
  pub number : r.number ≡ o.number
  pub bytes : after ≡ o.after

-- what the rules give, with the window as its bytes
unfoldable pub written : Outcome → RuleReply (List ℕ)
written o = record { answer = o.answer; number = o.number; after = encode o.after }
