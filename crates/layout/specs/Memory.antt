-- The calls on lent memory. Assumes nothing.
use Rattle.std.specs.Prelude.{Bool, true, false, not, cond, ◌&&◌, ◌||◌, List, [], ◌∷◌, ◌++◌, ℕ, leb, eqb, length, take, drop}
use Rattle.rules.specs.Window.{limits, Window, fresh}
use Rattle.rules.specs.Sound.{sound}
use Rattle.rules.specs.Calls.{Call, Reply, Outcome}
use Rattle.rules.specs.Refusals.{step}
use Rattle.rules.specs.Events.{is_open}
use Rattle.layout.specs.Codec.{window_size, decode, encode}

-- equal byte for byte
unfoldable pub same_bytes : List ℕ → List ℕ → Bool
same_bytes [] [] = true
same_bytes [] (y ∷ l) = false
same_bytes (x ∷ k) [] = false
same_bytes (x ∷ k) (y ∷ l) = eqb x y && same_bytes k l

-- "A window is sound when": what the bytes say is sound, and they are its bytes, so that "every unused byte, and unused bit of a used one, is 0"
unfoldable pub sound_bytes : List ℕ → Bool
sound_bytes bs = same_bytes (encode (decode bs)) bs && sound limits (decode bs)

-- memory that is not "shorter than a window"
unfoldable pub long : List ℕ → Bool
long mem = leb window_size (length mem)

-- memory that begins with a sound window
unfoldable pub sound_memory : List ℕ → Bool
sound_memory mem = long mem && sound_bytes (take window_size mem)

-- the window that it begins with
abbrev pub window_of : List ℕ → Window
window_of mem = decode (take window_size mem)

-- the memory as it was, with an answer and second number 0
unfoldable pub hand_back : List ℕ → ℕ → Reply (List ℕ)
hand_back mem a = record { answer = a; number = 0; after = mem }

-- what the rules leave, laid into the memory: "lent bytes past it are neither read nor changed"
unfoldable pub lay_into : List ℕ → Outcome → Reply (List ℕ)
lay_into mem o = record { answer = o.answer; number = o.number; after = encode o.after ++ drop window_size mem }

-- open on memory with no sound window: "What the memory held before plays no part". One that is refused leaves the memory
unfoldable pub anew : List ℕ → Outcome → Reply (List ℕ)
anew mem o = cond (eqb o.answer 0) (lay_into mem o) (hand_back mem o.answer)

-- "1. The memory is shorter than a window (every call), or is not a sound window (every call but open)"
unfoldable pub memory_refused : List ℕ → Call → Bool
memory_refused mem c = not (long mem) || (not (is_open c) && not (sound_memory mem))

-- a call on lent memory: refusal 1, then the rules
unfoldable pub perform : List ℕ → Call → Reply (List ℕ)
perform mem c = cond (memory_refused mem c) (hand_back mem 1) (cond (sound_memory mem) (lay_into mem (step limits (window_of mem) c)) (anew mem (step limits (fresh 0) c)))
