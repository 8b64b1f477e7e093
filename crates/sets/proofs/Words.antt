-- The four words of a set read as its members: two sets joined word by word, the lowest member, how many there are. Assumes nothing.
use mathlib.Core.Path.{◌≡◌, refl, sym, ap, ap₂, ◌∙◌}
use mathlib.Core.Bool.{Bool, true, false, cond}
use mathlib.Core.List.{List, [], ◌∷◌}
use Prim.Native.Nat.{ℕ, zero, suc, ◌+◌, ◌-◌, ◌*◌, ◌/◌, ◌%◌, ◌^◌, ◌<◌}
use native.Mathlib.Decide.{dec_lt}
use native.Mathlib.Numerals.{one-add}
use native.Mathlib.Omega.{arith}
use borrow.Author.Count.{below_none, below_more}
use lib.Bits.{bit_or, bit_xor, xor_add_and, and_le_l, and_le_r}
use lib.Count.{ones, ones_step, ones-le, count_trailing_zeros}
use lib.ListN.{length, get_or}
use Rattle.rules.specs.Base.{count_below}
use Rattle.rules.proofs.BoundLaws.{count_ext, count_add}
use Rattle.layout.specs.Codec.{bit, unpack}
use Rattle.cells.proofs.Digits.{digit, digit_bit, unpack-first, unpack-next, unpack_zero, trailing_hit, trailing_below}
use Rattle.cells.proofs.ZeroLaws.{or_zero}
use Rattle.words.specs.Members.{words_have}
use Rattle.words.proofs.BitLaws.{words_joined}
use Rattle.sets.specs.Members.{members}
use Rattle.sets.specs.declared.ChangeSet.{ChangeSet}

-- the set of these words
abbrev pub of_words : List ℕ → ChangeSet
of_words ws = record { words = ws }

-- what is said of 0, 1, 2 and 3 is said of each number below 4
pub each_of_4 : (P : ℕ → Type 0) → P 0 → P 1 → P 2 → P 3 → (i : ℕ) → i < 4 → P i
each_of_4 P a b c d = below_more P 3 (below_more P 2 (below_more P 1 (below_more P 0 (below_none P) a) b) c) d

-- digit j of word i
pub place : (s : ChangeSet) (i j : ℕ) → j < 64 → members s (64 * i + j) ≡ unpack (get_or s.words i 0) j
unfolding members words_have
place s i j h =
    let q : (64 * i + j) / 64 ≡ i = omega arith in
    let r : (64 * i + j) % 64 ≡ j = omega arith in
    ap₂ (λ (x y : ℕ). unpack (get_or s.words x 0) y) q r

-- what each word's digits are, said of the 256
pub by_words : (s : ChangeSet) (f : ℕ → Bool) → ((i : ℕ) → i < 4 → (j : ℕ) → j < 64 → unpack (get_or s.words i 0) j ≡ f (64 * i + j)) → (k : ℕ) → k < 256 → members s k ≡ f k
unfolding members words_have
by_words s f each k h =
    let e : 64 * (k / 64) + k % 64 ≡ k = omega arith in each (k / 64) (omega arith) (k % 64) (omega arith) ∙ ap f e

-- a word that is 0 holds none
pub word_zero : (s : ChangeSet) (k : ℕ) → get_or s.words (k / 64) 0 ≡ 0 → members s k ≡ false
unfolding members words_have
word_zero s k e = ap (λ (x : ℕ). unpack x (k % 64)) e ∙ unpack_zero (k % 64)

-- two sets joined word by word: P of the two old digits
pub join_words : (f : ℕ → ℕ → ℕ) (P : Bool → Bool → Bool) → P false false ≡ false → (s t : ChangeSet) → length s.words ≡ 4 → length t.words ≡ 4
    → ((i j : ℕ) → j < 64 → unpack (f (get_or s.words i 0) (get_or t.words i 0)) j ≡ P (unpack (get_or s.words i 0) j) (unpack (get_or t.words i 0) j))
    → (k : ℕ) → members (of_words (f (get_or s.words 0 0) (get_or t.words 0 0) ∷ f (get_or s.words 1 0) (get_or t.words 1 0) ∷ f (get_or s.words 2 0) (get_or t.words 2 0) ∷ f (get_or s.words 3 0) (get_or t.words 3 0) ∷ [])) k
    ≡ P (members s k) (members t k)
unfolding members
join_words f P nothing s t = words_joined f P nothing s.words t.words

-- a `^` that comes to 0
pub xor_zero : (a b : ℕ) → bit_xor a b ≡ 0 → a ≡ b
xor_zero a b e = omega (arith, xor_add_and a b, and_le_l a b, and_le_r a b)

-- four words joined by `|` that come to 0 are 0
pub or_four : (a b c d : ℕ) → bit_or (bit_or (bit_or a b) c) d ≡ 0 → (a ≡ 0) × (b ≡ 0) × (c ≡ 0) × (d ≡ 0)
or_four a b c d e =
    let p = or_zero (bit_or (bit_or a b) c) d e in
    let q = or_zero (bit_or a b) c p.0 in
    let r = or_zero a b q.0 in
    (r.0, r.1, q.1, p.1)

-- the lowest digit of the first word that is not 0
pub low_at : (s : ChangeSet) (i : ℕ) → i < 4 → get_or s.words i 0 < 2 ^ 64 → 0 < get_or s.words i 0 → ((j : ℕ) → j < i → get_or s.words j 0 ≡ 0)
    → (64 * i + count_trailing_zeros 64 (get_or s.words i 0) < 256) × (members s (64 * i + count_trailing_zeros 64 (get_or s.words i 0)) ≡ true)
    × ((k : ℕ) → k < 64 * i + count_trailing_zeros 64 (get_or s.words i 0) → members s k ≡ false)
low_at s i h fits p z = (omega (arith, hit.0), place s i (count_trailing_zeros 64 w) hit.0 ∙ hit.1, λ k l. go k l (dec_lt (k / 64) i))
  where
    w : ℕ
    w = get_or s.words i 0

    hit : (count_trailing_zeros 64 w < 64) × (unpack w (count_trailing_zeros 64 w) ≡ true)
    hit = trailing_hit 64 w fits p

    go : (k : ℕ) → k < 64 * i + count_trailing_zeros 64 w → Dec (k / 64 < i) → members s k ≡ false
    go k l (yes b) = word_zero s k (z (k / 64) b)
    go k l (no n) =
        let q : k ≡ 64 * i + (k - 64 * i) = omega arith in
        let r : k - 64 * i < count_trailing_zeros 64 w = omega arith in
        ap (members s) q ∙ place s i (k - 64 * i) (omega (arith, hit.0)) ∙ trailing_below 64 w (k - 64 * i) r

-- THE DIGITS THAT ARE SET, counted in one word and in four
-- how many of the numbers below a bound pass, the first counted apart
count-first : (p : ℕ → Bool) (n : ℕ) → count_below (suc n) p ≡ bit (p 0) + count_below n (λ k. p (suc k))
unfolding count_below
count-first p n = ap (λ (m : ℕ). count_below m p) (sym (one-add n)) ∙ count_add p 1 n ∙ ap₂ ◌+◌ (go (p 0)) (count_ext _ _ n (λ k l. ap p (one-add k)))
  where
    go : (b : Bool) → cond b 1 0 ≡ bit b
    go true = refl
    go false = refl

-- the ones of a word are its digits that are set
ones_count : (n w : ℕ) → w < 2 ^ n → ones w ≡ count_below n (unpack w)
unfolding count_below
ones_count zero w h = let e : w ≡ 0 = omega arith in rw e (omega (arith, ones-le 0 0 (omega arith)))
ones_count (suc n) w h =
    ones_step w
    ∙ ap₂ (λ (x y : ℕ). x + y) (digit_bit (digit w) ∙ ap bit (sym (unpack-first w)))
    (ones_count n (w / 2) (omega arith) ∙ count_ext (unpack (w / 2)) (λ k. unpack w (suc k)) n (λ k l. sym (unpack-next w k)))
    ∙ sym (count-first (unpack w) n)

-- and those of four words the members
pub count_words : (s : ChangeSet) → ((i : ℕ) → get_or s.words i 0 < 2 ^ 64)
    → ones (get_or s.words 0 0) + ones (get_or s.words 1 0) + ones (get_or s.words 2 0) + ones (get_or s.words 3 0) ≡ count_below 256 (members s)
count_words s fits =
    omega (
      arith,
      word 0 (λ j. j) (λ j. omega arith),
      word 1 (λ j. 64 + j) (λ j. omega arith),
      word 2 (λ j. 128 + j) (λ j. omega arith),
      word 3 (λ j. 192 + j) (λ j. omega arith),
      count_add (members s) 192 64,
      count_add (members s) 128 64,
      count_add (members s) 64 64,
    )
  where
    word : (i : ℕ) (at : ℕ → ℕ) → ((j : ℕ) → at j ≡ 64 * i + j) → ones (get_or s.words i 0) ≡ count_below 64 (λ j. members s (at j))
    word i at e =
        ones_count 64 (get_or s.words i 0) (fits i)
        ∙ count_ext (unpack (get_or s.words i 0)) (λ j. members s (at j)) 64 (λ j h. sym (place s i j h) ∙ ap (members s) (sym (e j)))
