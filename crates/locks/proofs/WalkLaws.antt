-- A walk over the entries from entry 0 on, each row changed by one rule. Assumes nothing.
use mathlib.Core.Path.{◌≡◌, refl, sym, ◌∙◌, ap, fun_ext}
use mathlib.Core.Bool.{Bool, cond}
use mathlib.Core.List.{List}
use Prim.Native.Nat.{ℕ, ◌+◌}
use native.Mathlib.Omega.{arith}
use lib.Dec.{ltb}
use borrow.Author.Tests.{le-ltb}
use Rattle.rules.specs.Sets.{Set, everything, only}
use Rattle.rules.proofs.BaseLaws.{Below, under, over, below, Same, same, other, same?}
use Rattle.layout.specs.Codec.{lock_section}
use Rattle.locks.specs.Held.{NoneFrom, changed_on}

-- the entries below a number
unfoldable pub first_entries : ℕ → Set
first_entries n e = ltb e n

module _ (rule : (ℕ → ℕ) → ℕ → ℕ) (held : ℕ → ℕ → ℕ) where
  -- no entry yet
  walk_none : held ≡ changed_on (first_entries 0) rule held
  unfolding changed_on first_entries
  walk_none = fun_ext λ e. fun_ext λ c. rw (le-ltb e 0 (omega arith))

  -- one more
  walk_next : (i : ℕ) → changed_on (only i) rule (changed_on (first_entries i) rule held) ≡ changed_on (first_entries (i + 1)) rule held
  unfolding changed_on first_entries only
  walk_next i = fun_ext λ e. fun_ext λ c. go e c (same? e i) (below e i) (below e (i + 1))
    where
      go : (e c : ℕ) {a b d : Bool} → Same e i a → Below e i b → Below e (i + 1) d
          → cond a (rule (λ y. cond b (rule (held e) y) (held e y)) c) (cond b (rule (held e) c) (held e c)) ≡ cond d (rule (held e) c) (held e c)
      go e c (same p) (under q) r = absurd (omega arith)
      go e c (same p) (over q) (under r) = refl
      go e c (same p) (over q) (over r) = absurd (omega arith)
      go e c (other p) (under q) (under r) = refl
      go e c (other p) (under q) (over r) = absurd (omega arith)
      go e c (other p) (over q) (under r) = absurd (omega arith)
      go e c (other p) (over q) (over r) = refl

  -- all: past the last entry with a lock, a rule that leaves empty rows empty changes nothing
  walk_all : (n : ℕ) → NoneFrom n held → ((row : ℕ → ℕ) → ((c : ℕ) → row c ≡ 0) → (c : ℕ) → rule row c ≡ 0) → changed_on (first_entries n) rule held ≡ changed_on everything rule held
  unfolding changed_on first_entries everything NoneFrom
  walk_all n none empty = fun_ext λ e. fun_ext λ c. go e c (below e n)
    where
      go : (e c : ℕ) {b : Bool} → Below e n b → cond b (rule (held e) c) (held e c) ≡ rule (held e) c
      go e c (under h) = refl
      go e c (over h) = none e c h ∙ sym (empty (held e) (λ d. none e d h) c)

-- the invariant of such a loop over sections that say locks of which `ok` holds
abbrev pub Walked : ((ℕ → ℕ → ℕ) → Type 0) → ((ℕ → ℕ) → ℕ → ℕ) → List ℕ → List ℕ → ℕ → Type 0
Walked ok rule start now i = (held : ℕ → ℕ → ℕ) → ok held → start ≡ lock_section held → now ≡ lock_section (changed_on (first_entries i) rule held)

module _ (ok : (ℕ → ℕ → ℕ) → Type 0) (rule : (ℕ → ℕ) → ℕ → ℕ) (start : List ℕ) where
  pub walked_none : Walked ok rule start start 0
  walked_none held g e = e ∙ ap lock_section (walk_none rule held)

  -- a turn changes the row of entry i
  pub walked_next : (now next : List ℕ) (i : ℕ) → ((held : ℕ → ℕ → ℕ) → ok held → ok (changed_on (first_entries i) rule held))
      → ((held : ℕ → ℕ → ℕ) → ok held → now ≡ lock_section held → next ≡ lock_section (changed_on (only i) rule held)) → Walked ok rule start now i → Walked ok rule start next (i + 1)
  walked_next now next i keeps turn w held g e = turn (changed_on (first_entries i) rule held) (keeps held g) (w held g e) ∙ ap lock_section (walk_next rule held i)

  pub walked_all : (now : List ℕ) (i n : ℕ) → i ≡ n → ((row : ℕ → ℕ) → ((c : ℕ) → row c ≡ 0) → (c : ℕ) → rule row c ≡ 0) → Walked ok rule start now i
      → (held : ℕ → ℕ → ℕ) → ok held → NoneFrom n held → start ≡ lock_section held → now ≡ lock_section (changed_on everything rule held)
  walked_all now i n last empty w held g none e = w held g e ∙ ap (λ m. lock_section (changed_on (first_entries m) rule held)) last ∙ ap lock_section (walk_all rule held n none empty)
