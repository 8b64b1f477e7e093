-- What a program sees that makes calls one after the other: docs/RULES.md, "Lists of calls", of the functions' replies. Assumes nothing.
use Rattle.std.specs.Prelude.{List, [], ◌∷◌, ℕ}
use Rattle.rules.specs.Calls.{Call, Status}
use Rattle.rules.specs.Events.{Event}
use Rattle.rules.specs.Lists.{remember}
use Rattle.layout.specs.Memory.{perform}
use Rattle.replies.specs.declared.Reply.{Reply}

-- a call made: its function's reply, and the memory that it left
pub record Done : Type 0 where
  pub call : Call
  pub reply : Reply
  pub after : List ℕ

-- its answer and second number, and the statuses: "the second number that a status call would give there"
unfoldable pub seen_of : Done → Event
seen_of d = record { call = d.call; answer = d.reply.answer; number = d.reply.number; status = λ c. (perform d.after (Status c)).number }

-- the calls made after others, the last one first; an open answered 0 begins anew
unfoldable pub seen : List Event → List Done → List Event
seen p [] = p
seen p (d ∷ l) = seen (remember (seen_of d) p) l
