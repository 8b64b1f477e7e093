-- What a function does to where a listing stands is what the definition does to the state. Assumes nothing.
use mathlib.Core.Path.{◌≡◌, sym, ap, ◌∙◌}
use mathlib.Core.Bool.{Bool, true, false, cond}
use mathlib.Core.List.{List, [], ◌∷◌, ◌++◌, foldl-append}
use Prim.Native.Nat.{ℕ, ◌+◌, ◌≤◌, ◌<◌}
use native.Mathlib.Omega.{arith}
use native.Mathlib.Numerals.{add-one}
use borrow.Author.Tests.{ne_eqb}
use lib.Dec.{eqb}
use lib.ListN.{length, take, get_or, set, length-append}
use lib.Seq.{take_all, take-suc, take-suc-set, take-append-le, length-take-le}
use Rattle.layout.specs.Memory.{same_bytes}
use Rattle.text.specs.Decimal.{ascii}
use Rattle.replies.specs.Gives.{Gives}
use Rattle.replies.specs.declared.Reply.{Reply}
use Rattle.script_lines.specs.Lines.{reply_to}
use Rattle.listing.specs.declared.Stage.{Stage}
use Rattle.listing.specs.declared.Stage.TheVariants.{First, Later}
use Rattle.listing.specs.Listing.{first_line, header, printed, zero_memory}
use Rattle.listing.specs.Feed.{State, start, first_ended, later_ended, line_ended, fed_byte, fed, ended}
use Rattle.listing.specs.Stands.{place_of, is_over}

-- THE START: the header waits
pub begun : (first rest : List ℕ) → first ≡ header → record { line = []; place = 0; over = false; memory = zero_memory; out = take 19 (first ++ rest) } ≡ start
unfolding start header ascii
begun first rest e = rw e

-- A BYTE is kept, or the bytes kept are enough
pub kept : (line : List ℕ) (held b : ℕ) → held < 65 → length line ≡ 65 → take (held + 1) (set line held b) ≡ take 65 (take held line ++ (b ∷ []))
kept line held b h k =
    let one : take (held + 1) (set line held b) ≡ take held line ++ (b ∷ []) = ap (λ (i : ℕ). take i (set line held b)) (add-one held) ∙ take-suc-set line held b (omega arith) in
    let short : length (take held line ++ (b ∷ [])) ≤ 65 = rw (length-append (take held line) (b ∷ []), length-take-le held line (omega arith)) (omega arith) in
    one ∙ sym (take_all 65 (take held line ++ (b ∷ [])) short)

pub enough : (line : List ℕ) (held b : ℕ) → held ≤ 65 → (held < 65 → ⊥) → length line ≡ 65 → take held line ≡ take 65 (take held line ++ (b ∷ []))
enough line held b h n k =
    let long : length (take held line) ≡ 65 = length-take-le held line (omega arith) ∙ omega arith in
    sym (take-append-le 65 (take held line) (b ∷ []) (omega arith) ∙ take_all 65 (take held line) (omega arith))

pub byte_newline : (t s : State) (b : ℕ) → b ≡ 10 → t ≡ line_ended s → t ≡ fed_byte s b
unfolding fed_byte
byte_newline t s b e h = rw e h

pub byte_more : (s : State) (b : ℕ) (l : List ℕ) → (b ≡ 10 → ⊥) → l ≡ take 65 (s.line ++ (b ∷ [])) → record { line = l; place = s.place; over = s.over; memory = s.memory; out = s.out } ≡ fed_byte s b
unfolding fed_byte
byte_more s b l n e = rw (ne_eqb b 10 n, e)

-- A LINE IS WHOLE
module _ (line mem out : List ℕ) (g : Stage) where
  -- the first, right or broken
  pub first_right : g ≡ First → same_bytes line first_line ≡ true
      → record { line = []; place = 1; over = false; memory = mem; out = out } ≡ line_ended (record { line = line; place = place_of g; over = is_over g; memory = mem; out = out })
  unfolding line_ended first_ended
  first_right e t = rw (e, t)

  pub first_broken : g ≡ First → same_bytes line first_line ≡ false → (o : List ℕ) (a n : ℕ) → o ≡ out ++ printed 0 a n → (a ≡ 30) × (n ≡ 0)
      → record { line = []; place = 0; over = true; memory = mem; out = o } ≡ line_ended (record { line = line; place = place_of g; over = is_over g; memory = mem; out = out })
  unfolding line_ended first_ended
  first_broken e t o a n w v = rw (e, t, w, v.0, v.1)

  -- a later one
  pub later_whole : (n : ℕ) → g ≡ Later n → (r : Reply) (left o : List ℕ) → Gives (reply_to mem line) r left → o ≡ out ++ printed (n + 1) r.answer r.number
      → record { line = []; place = n + 1 + 1; over = false; memory = left; out = o } ≡ line_ended (record { line = line; place = place_of g; over = is_over g; memory = mem; out = out })
  unfolding line_ended later_ended
  later_whole n e r left o v w = rw (e, ne_eqb (n + 1) 0 (λ (h : n + 1 ≡ 0). omega arith), w, add-one (n + 1), v.answer, v.number, v.bytes)

-- after a broken first line
pub over-line : (s : State) → s.over ≡ true → s ≡ line_ended s
unfolding line_ended
over-line s e = rw e

-- THE END of the input
pub end_none : (s : State) → length s.line ≡ 0 → s ≡ ended s
unfolding ended
end_none s e = rw e

pub end_begun : (t s : State) → (length s.line ≡ 0 → ⊥) → t ≡ line_ended s → t ≡ ended s
unfolding ended
end_begun t s n h = rw (ne_eqb (length s.line) 0 n) h

-- THE PLACE: each byte raises it by one at most
either : (b : Bool) (s t : State) (n : ℕ) → s.place ≤ n → t.place ≤ n → (cond b s t).place ≤ n
either true s t n h k = h
either false s t n h k = k

place_first : (s : State) → (first_ended s).place ≤ s.place + 1
unfolding first_ended
place_first s = either (same_bytes s.line first_line) _ _ (s.place + 1) (omega arith) (omega arith)

place_later : (s : State) → (later_ended s).place ≤ s.place + 1
unfolding later_ended
place_later s = omega arith

place_line : (s : State) → (line_ended s).place ≤ s.place + 1
unfolding line_ended
place_line s = either s.over s _ (s.place + 1) (omega arith) (either (eqb s.place 0) (first_ended s) (later_ended s) (s.place + 1) (place_first s) (place_later s))

place_byte : (s : State) (b : ℕ) → (fed_byte s b).place ≤ s.place + 1
unfolding fed_byte
place_byte s b = either (eqb b 10) (line_ended s) _ (s.place + 1) (place_line s) (omega arith)

place_fed : (l : List ℕ) (s : State) → (fed s l).place ≤ s.place + length l
unfolding fed
place_fed [] s = omega arith
place_fed (b ∷ l) s = omega (arith, place_byte s b, place_fed l (fed_byte s b))

pub place-at : (t s : State) (l : List ℕ) → t ≡ fed s l → t.place ≤ s.place + length l
place-at t s l e = omega (arith, place_fed l s, ap (λ (u : State). u.place) e)

pub place_taken : (t s : State) (l : List ℕ) (i : ℕ) → i ≤ length l → t ≡ fed s (take i l) → t.place ≤ s.place + i
place_taken t s l i h e = omega (arith, place-at t s (take i l) e, length-take-le i l h)

-- A PIECE: one byte of it after the other
pub fed-next : (s t u : State) (input : List ℕ) (i : ℕ) → i < length input → t ≡ fed s (take i input) → u ≡ fed_byte t (get_or input i 0) → u ≡ fed s (take (i + 1) input)
unfolding fed
fed-next s t u input i h e f =
    f ∙ ap (λ (v : State). fed_byte v (get_or input i 0)) e
    ∙ sym (ap (λ (k : ℕ). fed s (take k input)) (add-one i) ∙ ap (fed s) (take-suc input i 0 h) ∙ foldl-append fed_byte s (take i input) (get_or input i 0 ∷ []))

pub fed-all : (s t : State) (input : List ℕ) (i : ℕ) → length input ≤ i → t ≡ fed s (take i input) → t ≡ fed s input
fed-all s t input i h e = e ∙ ap (fed s) (take_all i input h)
