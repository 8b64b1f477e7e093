-- Statuses of a set of changes, and the changes of some statuses: one turn of the loops, and their ends. Assumes nothing.
use mathlib.Core.Path.{◌≡◌, refl, sym, ap, ap₂, ◌∙◌, fun_ext}
use mathlib.Core.Bool.{Bool, true, false, not, cond, ◌&&◌, ◌||◌, and-true, and-false, and-not_self, or-false, or_comm}
use mathlib.Core.List.{List}
use Prim.Native.Nat.{ℕ, suc, ◌+◌, ◌-◌, ◌*◌, ◌%◌, ◌^◌, ◌≤◌, ◌<◌, min, max}
use native.Mathlib.Nat.{zero-mul}
use native.Mathlib.Omega.{arith}
use native.Mathlib.Numerals.{add-one}
use lib.Dec.{ltb, eqb}
use mir.Val.{bool_byte}
use lib.Bits.{bit_or}
use borrow.Author.Tests.{eq-eqb, lt-ltb, le-ltb, eqb-true, ltb-true, not-true}
use lib.ListN.{get_or}
use Rattle.rules.specs.Base.{put, outside}
use Rattle.rules.specs.Sets.{Set, put_all}
use Rattle.rules.proofs.BaseLaws.{Same, same, other, same?, Below, under, over, below, and_right, both_ways, eqb_iff}
use Rattle.rules.proofs.SoundParts.{inside_of}
use Rattle.layout.specs.Codec.{change_section, bit, unpack}
use Rattle.cells.proofs.Digits.{unpack_zero, unpack_or, unpack-one}
use Rattle.sets.proofs.WalkLaws.{Lowest}
use Rattle.places.specs.Statuses.{firsts, in_range}
use Rattle.places.proofs.TableLaws.{status_read, change_ext}

-- the members of a set that are not left any more
unfoldable pub passed : Set → Set → Set
passed s left k = s k && not (left k)

-- a walk over the members of s, the lowest first: `left` are those still to come, c the lowest of them, or 256
pub record Walk (s left : Set) (c : ℕ) : Type 0 where
  pub lowest : Lowest left c
  pub inside : (k : ℕ) → left k ≡ true → s k ≡ true

-- none passed
pub statuses_none : (s : Set) (how : ℕ) (st : ℕ → ℕ) → put_all (passed s s) how st ≡ st
unfolding put_all passed
statuses_none s how st = fun_ext (λ k. ap (λ (b : Bool). cond b how (st k)) (and-not_self (s k)))

-- one turn of the loop: the walk goes on without c
module _ (s left : Set) (c : ℕ) (w : Walk s left c) (left' : Set) (without : (k : ℕ) → left' k ≡ not (eqb k c) && left k) where
  pub walk_next : (c' : ℕ) → Lowest left' c' → Walk s left' c'
  walk_next c' e = record { lowest = e; inside = λ k l. w.inside k (and_right (not (eqb k c)) (left k) (sym (without k) ∙ l)) }

  -- one more
  statuses-more : c < 256 → (how : ℕ) (st : ℕ → ℕ) → put (put_all (passed s left) how st) c how ≡ put_all (passed s left') how st
  unfolding put_all put passed
  statuses-more h how st = fun_ext (λ k. go k (same? k c) ∙ ap (λ (b : Bool). cond (s k && not b) how (st k)) (sym (without k)))
    where
      member : s c ≡ true
      member = w.inside c (w.lowest.hit h)

      go : (k : ℕ) → {a : Bool} → Same k c a → cond a how (cond (s k && not (left k)) how (st k)) ≡ cond (s k && not (not a && left k)) how (st k)
      go k (same q) = rw (q, member)
      go k (other q) = refl

  -- from what was there and what the turn made of it
  pub statuses_turn : c < 256 → (how : ℕ) (l l' : List ℕ) (st pa : ℕ → ℕ) → l ≡ change_section (put_all (passed s left) how st) pa
      → ((st pa : ℕ → ℕ) → l ≡ change_section st pa → l' ≡ change_section (put st c how) pa) → l' ≡ change_section (put_all (passed s left') how st) pa
  statuses_turn h how l l' st pa e f = f (put_all (passed s left) how st) pa e ∙ ap (λ (x : ℕ → ℕ). change_section x pa) (statuses-more h how st)

-- all
pub statuses-all : (s left : Set) (c : ℕ) → Walk s left c → 256 ≤ c → (how : ℕ) (st pa : ℕ → ℕ)
    → change_section (put_all (passed s left) how st) pa ≡ change_section (put_all s how st) pa
unfolding put_all passed
statuses-all s left c w h how st pa =
    change_ext (put_all (passed s left) how st) (put_all s how st) pa (λ k l. rw (w.lowest.before k (omega arith), and-true (s k)))

-- CHANGES OF SOME STATUSES, word by word
-- one number more
ltb_more : (k c : ℕ) → ltb k (c + 1) ≡ eqb k c || ltb k c
ltb_more k c = go (same? k c) (below k c)
  where
    go : {a b : Bool} → Same k c a → Below k c b → ltb k (c + 1) ≡ a || b
    go (same e) b = lt-ltb k (c + 1) (omega arith)
    go (other e) (under h) = lt-ltb k (c + 1) (omega arith)
    go (other e) (over h) = le-ltb k (c + 1) (omega arith)

-- one member more
firsts_more : (s : Set) (c k : ℕ) → eqb k c && s c || firsts c s k ≡ firsts (c + 1) s k
unfolding firsts
firsts_more s c k = go (same? k c) ∙ ap (λ (b : Bool). b && s k) (sym (ltb_more k c))
  where
    go : {a : Bool} → Same k c a → a && s c || (ltb k c && s k) ≡ (a || ltb k c) && s k
    go (same e) = rw (e, le-ltb c c (omega arith)) (or-false (s c))
    go (other e) = refl

-- bounds that agree on a number
firsts_same : (s : Set) (m n k : ℕ) → (k < m → k < n) → (k < n → k < m) → firsts m s k ≡ firsts n s k
unfolding firsts
firsts_same s m n k f g = ap (λ (b : Bool). b && s k) (both_ways _ _ (λ e. lt-ltb k n (f (ltb-true k m e))) (λ e. lt-ltb k m (g (ltb-true k n e))))

-- a number that is not below the bound
pub firsts_above : (s : Set) (n k : ℕ) → n ≤ k → firsts n s k ≡ false
unfolding firsts
firsts_above s n k h = rw (le-ltb k n h)

-- a test as a number is its bit
pub bit_of : (t : Bool) → bool_byte t ≡ bit t
bit_of true = refl
bit_of false = refl

-- a bit moved up to place i
bit_moved : (t : Bool) (i j : ℕ) → j < 64 → unpack ((bit t * 2 ^ i) % 2 ^ 64) j ≡ eqb j i && t
bit_moved true i j h = unpack-one i j h ∙ sym (and-true (eqb j i))
bit_moved false i j h = rw (zero-mul (2 ^ i)) (unpack_zero j ∙ sym (and-false (eqb j i)))

-- a word of a set: none of its changes yet
pub word_none : (s : Set) (first j : ℕ) → unpack 0 j ≡ firsts first s (first + j)
word_none s first j = unpack_zero j ∙ sym (firsts_above s first (first + j) (omega arith))

-- one change more: t says whether it is in, b is its bit
pub word_more : (s : Set) (first c w b : ℕ) (t : Bool) → first ≤ c → t ≡ s c → b ≡ bit t
    → ((j : ℕ) → j < 64 → unpack w j ≡ firsts c s (first + j))
    → (j : ℕ) → j < 64 → unpack (bit_or w ((b * 2 ^ (c - first)) % 2 ^ 64)) j ≡ firsts (c + 1) s (first + j)
word_more s first c w b t h e f inv j l =
    unpack_or w ((b * 2 ^ (c - first)) % 2 ^ 64) j
    ∙ ap₂ ◌||◌ (inv j l) (rw (f, e) (bit_moved (s c) (c - first) j l ∙ rw here))
    ∙ or_comm (firsts c s (first + j)) (eqb (first + j) c && s c) ∙ firsts_more s c (first + j)
  where
    here : eqb j (c - first) ≡ eqb (first + j) c
    here = eqb_iff j (c - first) (first + j) c (λ q. omega arith) (λ q. omega arith)

-- all up to the end, which may lie before the first
pub word_all : (s : Set) (first c end w : ℕ) → end ≤ c → c ≤ max first end
    → ((j : ℕ) → j < 64 → unpack w j ≡ firsts c s (first + j)) → (j : ℕ) → j < 64 → unpack w j ≡ firsts end s (first + j)
word_all s first c end w h k inv j l = inv j l ∙ firsts_same s c end (first + j) (λ x. omega arith) (λ x. omega arith)

-- a word of those below n: its changes end at n or where the word ends
pub word_cut : (s : Set) (n i last w : ℕ) → last ≡ min n (64 * i + 64) → ((j : ℕ) → j < 64 → unpack w j ≡ firsts last s (64 * i + j))
    → (j : ℕ) → j < 64 → unpack w j ≡ firsts n s (64 * i + j)
word_cut s n i last w e f j l = f j l ∙ firsts_same s last n (64 * i + j) (λ x. omega arith) (λ x. omega arith)

-- the end
pub within_all : (changes : List ℕ) (low high given : ℕ) → given < 256 → (st pa : ℕ → ℕ) → changes ≡ change_section st pa → (k : ℕ)
    → firsts (given + 1) (in_range changes low high) k ≡ ltb k (suc given) && not (outside low high (st k))
unfolding firsts in_range
within_all changes low high given h st pa e k = rw (add-one given) (go (below k (suc given)))
  where
    go : {b : Bool} → Below k (suc given) b → b && not (outside low high (get_or changes (k * 4) 0)) ≡ b && not (outside low high (st k))
    go (under t) = ap (λ (x : ℕ). not (outside low high x)) (status_read changes st pa k e (omega arith))
    go (over t) = refl

-- from a status to itself
pub only-status : (s x : ℕ) → not (outside s s x) ≡ eqb x s
unfolding outside
only-status s x = both_ways _ _
    (λ e. eq-eqb x s (omega (arith, inside_of s s x (not-true _ e))))
    (λ e. rw (eqb-true x s e, le-ltb s s (omega arith)))
