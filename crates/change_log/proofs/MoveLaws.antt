-- The log handed over: one record, one turn of the loop, and its end. Assumes nothing.
use mathlib.Core.Path.{◌≡◌, refl, sym, ap, ◌∙◌}
use mathlib.Core.Bool.{Bool, true, false, ◌&&◌}
use mathlib.Core.List.{List, [], ◌∷◌, ◌++◌, map}
use Prim.Native.Nat.{ℕ, zero, suc, ◌+◌, ◌*◌, ◌<◌}
use native.Mathlib.Nat.{le_of_suc-le-suc, not-suc-le-zero}
use native.Mathlib.Numerals.{add-one}
use lib.Dec.{eqb}
use lib.ListN.{length, take, drop, get_or, set}
use lib.Seq.{set-get_or}
use Rattle.rules.specs.Sets.{Set}
use Rattle.rules.specs.Window.{LogRecord}
use Rattle.rules.specs.Effects.{move_log, moved_record}
use Rattle.layout.specs.Codec.{no_record, log_section}
use Rattle.scope.specs.declared.HandOver.{HandOver}
use Rattle.scope.specs.Entries.{entries_of, takes}
use Rattle.change_log.proofs.LogLaws.{owner_read, entry_read, owner_store}

-- ONE RECORD, by the test of its two bytes
module _ (s : List ℕ) (l : List LogRecord) (i : ℕ) (over : HandOver) (e : s ≡ log_section l) (h : i < 2048) where
  -- the test of the bytes is the test of the record
  test : (b : Bool) → takes over (get_or s (i * 6) 0) (get_or s (i * 6 + 1) 0) ≡ b → eqb (get_or l i no_record).owner over.from && entries_of over.scope (get_or l i no_record).entry ≡ b
  unfolding takes
  test b q = rw (← owner_read s l i e h, ← entry_read s l i e h) q

  -- it goes over
  pub hand_yes : i < length l → takes over (get_or s (i * 6) 0) (get_or s (i * 6 + 1) 0) ≡ true
      → set s (i * 6) over.to ≡ log_section (set l i (moved_record over.from over.to (entries_of over.scope) (get_or l i no_record)))
  unfolding moved_record
  hand_yes t q = owner_store s l i e h over.to t (moved_record over.from over.to (entries_of over.scope) (get_or l i no_record)) (rw (test true q))

  -- it stays
  pub hand_no : takes over (get_or s (i * 6) 0) (get_or s (i * 6 + 1) 0) ≡ false
      → s ≡ log_section (set l i (moved_record over.from over.to (entries_of over.scope) (get_or l i no_record)))
  unfolding moved_record
  hand_no q = rw (test false q) (e ∙ ap log_section (sym (set-get_or l i no_record)))

-- THE FIRST i RECORDS
unfoldable pub first_moved : (LogRecord → LogRecord) → ℕ → List LogRecord → List LogRecord
first_moved f i l = map f (take i l) ++ drop i l

-- as many
length-first : (f : LogRecord → LogRecord) (i : ℕ) (l : List LogRecord) → length (first_moved f i l) ≡ length l
unfolding first_moved
length-first f zero l = refl
length-first f (suc i) [] = refl
length-first f (suc i) (x ∷ l) = ap suc (length-first f i l)

-- none
pub first_none : (f : LogRecord → LogRecord) (l : List LogRecord) → l ≡ first_moved f 0 l
unfolding first_moved
first_none f l = refl

-- one more
first_suc : (f : LogRecord → LogRecord) (i : ℕ) (l : List LogRecord) → i < length l → set (first_moved f i l) i (f (get_or (first_moved f i l) i no_record)) ≡ first_moved f (suc i) l
unfolding first_moved
first_suc f i [] h = absurd (not-suc-le-zero h)
first_suc f zero (x ∷ l) h = refl
first_suc f (suc i) (x ∷ l) h = ap (λ (r : List LogRecord). f x ∷ r) (first_suc f i l (le_of_suc-le-suc h))

-- one turn of the loop, from what was there and what the turn made of it
pub first_turn : (f : LogRecord → LogRecord) (i : ℕ) (l : List LogRecord) (s s' : List ℕ) → i < length l → s ≡ log_section (first_moved f i l)
    → ((k : List LogRecord) → i < length k → s ≡ log_section k → s' ≡ log_section (set k i (f (get_or k i no_record)))) → s' ≡ log_section (first_moved f (i + 1) l)
first_turn f i l s s' h e g =
    g (first_moved f i l) (rw length-first h) e ∙ ap log_section (first_suc f i l h ∙ ap (λ (k : ℕ). first_moved f k l) (sym (add-one i)))

-- all: rules' `move_log`
map-all : (f : LogRecord → LogRecord) (l : List LogRecord) → first_moved f (length l) l ≡ map f l
unfolding first_moved
map-all f [] = refl
map-all f (x ∷ l) = ap (λ (r : List LogRecord). f x ∷ r) (map-all f l)

pub first-all : (from to : ℕ) (on : Set) (l : List LogRecord) (n : ℕ) → length l ≡ n → first_moved (moved_record from to on) n l ≡ move_log from to on l
unfolding move_log moved_record
first-all from to on l n e = rw (← e) (map-all (moved_record from to on) l)
