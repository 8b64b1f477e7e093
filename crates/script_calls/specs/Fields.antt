-- docs/RULES.md, "The script program": which call a call number asks for with four fields, and what it is answered. Assumes nothing.
use Rattle.std.specs.Prelude.{cond, ◌&&◌, List, [], ◌∷◌, ℕ, eqb, get_or}
use Rattle.std.proofs.Math.Option.{Option, none, some}
use Rattle.rules.specs.Calls.{Call, Open, Initiate, Begin, Complete, Lock, Read, Write, Permit, Delegate, Depend, Commit, Abort, Status, Parent, Value, Reply}
use Rattle.layout.specs.Memory.{hand_back, perform}

-- "Each call name fixes which of the four fields it reads, its arguments in the order above from the first field on"
pub data Reads : Type 0 where
  nothing : Reads
  one : (ℕ → Call) → Reads
  two : (ℕ → ℕ → Call) → Reads
  three : (ℕ → ℕ → ℕ → Call) → Reads
  four : (ℕ → ℕ → ℕ → ℕ → Call) → Reads

-- by call number from 1, in the order of "The calls"
unfoldable pub readings : List Reads
readings =
    one Open ∷ one Initiate ∷ one Begin ∷ one Complete ∷ three Lock ∷ two Read ∷ three Write ∷ four Permit ∷ three Delegate ∷ three Depend
    ∷ one Commit ∷ one Abort ∷ one Status ∷ one Parent ∷ one Value ∷ []

-- at a place from 1; at 0, and past the end, nothing
unfoldable pub placed : ℕ → List Reads → Reads
placed k rs = get_or (nothing ∷ rs) k nothing

-- "unused fields must be 0, or the line is broken"
unfoldable pub made : Reads → (a b c d : ℕ) → Option Call
made nothing a b c d = none
made (one f) a b c d = cond (eqb b 0 && eqb c 0 && eqb d 0) (some (f a)) none
made (two f) a b c d = cond (eqb c 0 && eqb d 0) (some (f a b)) none
made (three f) a b c d = cond (eqb d 0) (some (f a b c)) none
made (four f) a b c d = some (f a b c d)

-- the call of a call number with four fields
unfoldable pub call_of : (call a b c d : ℕ) → Option Call
call_of k a b c d = made (placed k readings) a b c d

-- the same, of four fields as a list
unfoldable pub call_with : (call : ℕ) → List ℕ → Option Call
call_with k (a ∷ b ∷ c ∷ d ∷ []) = call_of k a b c d
call_with k _ = none

-- the reply to a call; no call "prints answer 30 and number 0 and does nothing"
unfoldable pub reply_of : List ℕ → Option Call → Reply (List ℕ)
reply_of mem none = hand_back mem 30
reply_of mem (some c) = perform mem c

-- where the last field stands that is not 0; 1 where it is the first, or none
unfoldable pub last_field : (b c d : ℕ) → ℕ
last_field b c d = cond (eqb d 0) (cond (eqb c 0) (cond (eqb b 0) 1 2) 3) 4
