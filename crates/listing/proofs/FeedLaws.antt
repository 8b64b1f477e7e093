-- What is printed while the input is fed byte by byte is the listing, in whatever pieces it comes. Assumes nothing.
use mathlib.Core.Path.{◌≡◌, refl, sym, ap, ◌∙◌}
use mathlib.Core.Bool.{Bool, true, false, cond}
use mathlib.Core.List.{List, [], ◌∷◌, ◌++◌, append_assoc, append-nil, flatten, foldr, foldr-append, foldl-append}
use Prim.Native.Nat.{ℕ, suc}
use lib.Dec.{eqb, eqb-suc-zero}
use lib.ListN.{length, take}
use Rattle.layout.specs.Memory.{same_bytes}
use Rattle.text.specs.Parts.{in_front, lines}
use Rattle.script_lines.specs.Lines.{reply_to}
use Rattle.listing.specs.Listing.{first_line, header, printed, zero_memory, replies, answered, listing}
use Rattle.listing.specs.Feed.{State, start, first_ended, later_ended, line_ended, fed_byte, fed, ended}
use Rattle.listing.specs.Pieces.{written, outputs}
use Rattle.listing.proofs.KeptLaws.{take-kept, reply-kept, first-kept}

-- LINES that begin with what has been read of one
abbrev front : List ℕ → List (List ℕ) → List (List ℕ)
front l ls = foldr in_front ls l

front_whole : (l : List ℕ) (ls : List (List ℕ)) → front l ([] ∷ ls) ≡ l ∷ ls
unfolding in_front
front_whole [] ls = refl
front_whole (y ∷ l) ls = ap (in_front y) (front_whole l ls)

front_end : (x : ℕ) (l : List ℕ) → front (x ∷ l) [] ≡ (x ∷ l) ∷ []
unfolding in_front
front_end x [] = refl
front_end x (y ∷ l) = ap (in_front x) (front_end y l)

-- a state with what is kept of the line begun
abbrev at : List ℕ → ℕ → Bool → List ℕ → List ℕ → State
at l p o mem out = record { line = take 65 l; place = p; over = o; memory = mem; out = out }

-- AFTER A BROKEN FIRST LINE nothing is printed
over-fed : (xs l : List ℕ) (p : ℕ) (mem out : List ℕ) → (ended (fed (at l p true mem out) xs)).out ≡ out
unfolding fed fed_byte line_ended ended
over-fed [] l p mem out = elim (eqb (length (take 65 l)) 0) as (λ b. (cond b (at l p true mem out) (at l p true mem out)).out ≡ out) [ true ↦ refl | false ↦ refl ]
over-fed (x ∷ xs) l p mem out =
    elim (eqb x 10) as (λ b. (ended (fed (cond b (at l p true mem out) (record { line = take 65 (take 65 l ++ (x ∷ [])); place = p; over = true; memory = mem; out = out })) xs)).out ≡ out) [
      | true ↦ over-fed xs l p mem out
      | false ↦ rw (take-kept 65 l (x ∷ [])) (over-fed xs (l ++ (x ∷ [])) p mem out)
    ]

-- LATER LINES: what is printed from a line begun on
later_fed : (xs l : List ℕ) (p : ℕ) (mem out : List ℕ) → (ended (fed (at l (suc p) false mem out) xs)).out ≡ out ++ replies (suc p) mem (front l (lines xs))
unfolding lines replies fed fed_byte line_ended later_ended ended
later_fed [] [] p mem out = sym (append-nil out)
later_fed [] (x ∷ l) p mem out =
    rw (front_end x l, eqb-suc-zero (length (take 64 l)), eqb-suc-zero p, reply-kept mem (x ∷ l), append-nil (printed (suc p) (reply_to mem (x ∷ l)).answer (reply_to mem (x ∷ l)).number))
later_fed (x ∷ xs) l p mem out =
    elim (eqb x 10)
    as (λ b. (ended (fed (cond b (line_ended (at l (suc p) false mem out)) (record { line = take 65 (take 65 l ++ (x ∷ [])); place = suc p; over = false; memory = mem; out = out })) xs)).out
    ≡ out ++ replies (suc p) mem (front l (cond b ([] ∷ lines xs) (in_front x (lines xs))))) [
      | true ↦
          rw (front_whole l (lines xs), eqb-suc-zero p, reply-kept mem l)
          (later_fed xs [] (suc p) (reply_to mem l).after (out ++ printed (suc p) (reply_to mem l).answer (reply_to mem l).number) ∙ append_assoc out _ _)
      | false ↦ rw (take-kept 65 l (x ∷ []), ← foldr-append in_front (lines xs) l (x ∷ [])) (later_fed xs (l ++ (x ∷ [])) p mem out)
    ]

-- THE FIRST LINE: what is printed from its beginning on
first-fed : (xs l : List ℕ) (out : List ℕ) → (ended (fed (at l 0 false zero_memory out) xs)).out ≡ out ++ answered (front l (lines xs))
unfolding lines answered replies fed fed_byte line_ended first_ended ended
first-fed [] [] out = sym (append-nil out)
first-fed [] (x ∷ l) out =
    rw (front_end x l, eqb-suc-zero (length (take 64 l)), first-kept (x ∷ l))
    (elim (same_bytes (x ∷ l) first_line)
    as (λ b. (cond b (at [] 1 false zero_memory out) (at [] 0 true zero_memory (out ++ printed 0 30 0))).out ≡ out ++ cond b [] (printed 0 30 0))
    [ true ↦ sym (append-nil out) | false ↦ refl ])
first-fed (x ∷ xs) l out =
    elim (eqb x 10)
    as (λ b. (ended (fed (cond b (first_ended (at l 0 false zero_memory out)) (record { line = take 65 (take 65 l ++ (x ∷ [])); place = 0; over = false; memory = zero_memory; out = out })) xs)).out
    ≡ out ++ answered (front l (cond b ([] ∷ lines xs) (in_front x (lines xs))))) [
      | true ↦
          rw (front_whole l (lines xs), first-kept l)
          (elim (same_bytes l first_line)
          as (λ b. (ended (fed (cond b (at [] 1 false zero_memory out) (at [] 0 true zero_memory (out ++ printed 0 30 0))) xs)).out ≡ out ++ cond b (replies 1 zero_memory (lines xs)) (printed 0 30 0))
          [ true ↦ later_fed xs [] 0 zero_memory out | false ↦ over-fed xs [] 0 zero_memory (out ++ printed 0 30 0) ])
      | false ↦ rw (take-kept 65 l (x ∷ []), ← foldr-append in_front (lines xs) l (x ∷ [])) (first-fed xs (l ++ (x ∷ [])) out)
    ]

-- THE WHOLE INPUT, fed byte by byte
fed-listing : (input : List ℕ) → (ended (fed start input)).out ≡ listing input
unfolding start listing
fed-listing input = first-fed input [] header

-- WHAT WAS PRINTED BEFORE plays no part: o in front of what a state has printed
after : List ℕ → State → State
after o s = record { line = s.line; place = s.place; over = s.over; memory = s.memory; out = o ++ s.out }

ended-line-after : (o : List ℕ) (s : State) → line_ended (after o s) ≡ after o (line_ended s)
unfolding after line_ended first_ended later_ended
ended-line-after o s = go s.over (eqb s.place 0) (same_bytes s.line first_line)
  where
    go : (a b c : Bool)
        → cond a (after o s) (cond b (cond c (record { line = []; place = 1; over = false; memory = s.memory; out = o ++ s.out }) (record { line = []; place = 0; over = true; memory = s.memory; out = (o ++ s.out) ++ printed 0 30 0 })) (later_ended (after o s)))
        ≡ after o (cond a s (cond b (cond c (record { line = []; place = 1; over = false; memory = s.memory; out = s.out }) (record { line = []; place = 0; over = true; memory = s.memory; out = s.out ++ printed 0 30 0 })) (later_ended s)))
    go true b c = refl
    go false true true = refl
    go false true false = rw (append_assoc o s.out (printed 0 30 0))
    go false false c = rw (append_assoc o s.out (printed s.place (reply_to s.memory s.line).answer (reply_to s.memory s.line).number))

byte-after : (o : List ℕ) (s : State) (x : ℕ) → fed_byte (after o s) x ≡ after o (fed_byte s x)
unfolding after fed_byte
byte-after o s x =
    elim (eqb x 10)
    as (λ b. cond b (line_ended (after o s)) (record { line = take 65 (s.line ++ (x ∷ [])); place = s.place; over = s.over; memory = s.memory; out = o ++ s.out })
    ≡ after o (cond b (line_ended s) (record { line = take 65 (s.line ++ (x ∷ [])); place = s.place; over = s.over; memory = s.memory; out = s.out })))
    [ true ↦ ended-line-after o s | false ↦ refl ]

fed-after : (o : List ℕ) (s : State) (xs : List ℕ) → fed (after o s) xs ≡ after o (fed s xs)
unfolding fed
fed-after o s [] = refl
fed-after o s (x ∷ xs) = rw (byte-after o s x) (fed-after o (fed_byte s x) xs)

ended-after : (o : List ℕ) (s : State) → ended (after o s) ≡ after o (ended s)
unfolding after ended
ended-after o s =
    elim (eqb (length s.line) 0) as (λ b. cond b (after o s) (line_ended (after o s)) ≡ after o (cond b s (line_ended s)))
    [ true ↦ refl | false ↦ ended-line-after o s ]

after-written : (s : State) → after s.out (written s) ≡ s
unfolding after written
after-written s = rw (append-nil s.out)

fed_whole : (s : State) (xs : List ℕ) → fed s xs ≡ after s.out (fed (written s) xs)
fed_whole s xs = ap (λ (t : State). fed t xs) (sym (after-written s)) ∙ fed-after s.out (written s) xs

-- what is printed at the end is the same whatever was printed before
ended-out : (s : State) → (ended s).out ≡ s.out ++ (ended (written s)).out
unfolding after
ended-out s = ap (λ (t : State). (ended t).out) (sym (after-written s)) ∙ ap (λ (t : State). t.out) (ended-after s.out (written s))

-- IN PIECES
pieces_from : (s : State) (pieces : List (List ℕ)) → s.out ++ outputs s pieces ≡ (ended (fed s (flatten pieces))).out
unfolding outputs flatten fed after
pieces_from s [] = sym (ended-out s)
pieces_from s (xs ∷ pieces) =
    let t : State = fed (written s) xs in
    ap (λ (r : List ℕ). s.out ++ r) (pieces_from t pieces)
    ∙ sym (ap (λ (u : State). u.out) (ap ended (foldl-append fed_byte s xs (flatten pieces) ∙ ap (λ (u : State). fed u (flatten pieces)) (fed_whole s xs) ∙ fed-after s.out t (flatten pieces)) ∙ ended-after s.out (fed t (flatten pieces))))

-- the outputs of the pieces, one after the other, are the listing of the whole
pub pieces_listing : (pieces : List (List ℕ)) → header ++ outputs start pieces ≡ listing (flatten pieces)
unfolding start
pieces_listing pieces = pieces_from start pieces ∙ fed-listing (flatten pieces)
