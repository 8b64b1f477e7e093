-- Bits of words: a word of one number, a word without a bit, words of which one has changed, and two lists of four joined word by word. Assumes nothing.
use mathlib.Core.Path.{◌≡◌, refl, sym, ap, ◌∙◌}
use mathlib.Core.Bool.{Bool, false, not, ◌&&◌, ◌||◌, and_comm, or_comm}
use mathlib.Core.List.{List, [], ◌∷◌}
use Prim.Native.Nat.{ℕ, zero, suc, ◌+◌, ◌-◌, ◌*◌, ◌/◌, ◌%◌, ◌^◌, ◌<◌}
use native.Mathlib.Decide.{ℕ_discrete, dec_lt}
use native.Mathlib.Omega.{arith}
use borrow.Author.Tests.{ne_eqb}
use lib.Bits.{bit_and, bit_or}
use lib.Dec.{eqb}
use lib.ListN.{length, get_or, set, get_or-eq_default}
use lib.Seq.{get_or-set_same, get_or-set_other}
use Rattle.std.proofs.lemmas.List.{get_or_past}
use Rattle.rules.proofs.BaseLaws.{eqb_iff}
use Rattle.layout.specs.Codec.{unpack}
use Rattle.cells.proofs.Digits.{unpack_zero, unpack-one, unpack_or, unpack_and, unpack_not}
use Rattle.words.specs.Members.{words_have}

-- two lists of four words joined word by word: P of the two old digits
pub words_joined : (f : ℕ → ℕ → ℕ) (P : Bool → Bool → Bool) → P false false ≡ false → (a b : List ℕ) → length a ≡ 4 → length b ≡ 4
    → ((i j : ℕ) → j < 64 → unpack (f (get_or a i 0) (get_or b i 0)) j ≡ P (unpack (get_or a i 0) j) (unpack (get_or b i 0) j))
    → (k : ℕ) → words_have (f (get_or a 0 0) (get_or b 0 0) ∷ f (get_or a 1 0) (get_or b 1 0) ∷ f (get_or a 2 0) (get_or b 2 0) ∷ f (get_or a 3 0) (get_or b 3 0) ∷ []) k ≡ P (words_have a k) (words_have b k)
unfolding words_have
words_joined f P nothing a b la lb each k = go (k / 64) (k % 64) (omega arith)
  where
    go : (i j : ℕ) → j < 64
        → unpack (get_or (f (get_or a 0 0) (get_or b 0 0) ∷ f (get_or a 1 0) (get_or b 1 0) ∷ f (get_or a 2 0) (get_or b 2 0) ∷ f (get_or a 3 0) (get_or b 3 0) ∷ []) i 0) j
        ≡ P (unpack (get_or a i 0) j) (unpack (get_or b i 0) j)
    go zero j h = each 0 j h
    go (suc zero) j h = each 1 j h
    go (suc (suc zero)) j h = each 2 j h
    go (suc (suc (suc zero))) j h = each 3 j h
    go (suc (suc (suc (suc i)))) j h =
        rw (get_or-eq_default a 0 {n = suc (suc (suc (suc i)))} (omega arith), get_or-eq_default b 0 {n = suc (suc (suc (suc i)))} (omega arith))
        (rw unpack_zero (sym nothing))

-- `1 << (c % 64)` is the word of c alone that has its digit
pub bit-here : (c i j : ℕ) → c / 64 ≡ i → j < 64 → unpack ((1 * 2 ^ (c % 64)) % 2 ^ 64) j ≡ eqb (64 * i + j) c
bit-here c i j e h = unpack-one (c % 64) j h ∙ eqb_iff j (c % 64) (64 * i + j) c (λ q. omega arith) (λ q. omega arith)

-- the others are 0
pub bit_elsewhere : (c i j : ℕ) → (c / 64 ≡ i → ⊥) → j < 64 → unpack 0 j ≡ eqb (64 * i + j) c
bit_elsewhere c i j n h = unpack_zero j ∙ sym (ne_eqb (64 * i + j) c (λ q. n (omega arith)))

-- `a & !b` is a digit of a and not of b
pub word_minus : (a b : ℕ) → b < 2 ^ 64 → (j : ℕ) → j < 64 → unpack (bit_and a (2 ^ 64 - 1 - b)) j ≡ unpack a j && not (unpack b j)
word_minus a b h j l = unpack_and a (2 ^ 64 - 1 - b) j ∙ ap (λ (t : Bool). unpack a j && t) (unpack_not 64 b j h l)

-- `a & !(1 << t)` is a without digit t
pub word_without : (a t j : ℕ) → j < 64 → unpack (bit_and a (2 ^ 64 - 1 - (1 * 2 ^ t) % 2 ^ 64)) j ≡ not (eqb j t) && unpack a j
word_without a t j l = word_minus a ((1 * 2 ^ t) % 2 ^ 64) (omega arith) j l ∙ and_comm (unpack a j) _ ∙ ap (λ (b : Bool). not b && unpack a j) (unpack-one t j l)

-- the word of c in place of the old one: where its digits are P of whether they are c's and of the old digits, so are the members
word_changed : (P : Bool → Bool → Bool) → ((b : Bool) → P false b ≡ b) → (ws : List ℕ) (c w : ℕ) → c / 64 < length ws
    → ((j : ℕ) → j < 64 → unpack w j ≡ P (eqb (64 * (c / 64) + j) c) (unpack (get_or ws (c / 64) 0) j)) → (k : ℕ) → words_have (set ws (c / 64) w) k ≡ P (eqb k c) (words_have ws k)
unfolding words_have
word_changed P keeps ws c w h each k = go (ℕ_discrete (k / 64) (c / 64))
  where
    go : Dec (k / 64 ≡ c / 64) → unpack (get_or (set ws (c / 64) w) (k / 64) 0) (k % 64) ≡ P (eqb k c) (unpack (get_or ws (k / 64) 0) (k % 64))
    go (yes e) =
        let q : 64 * (c / 64) + k % 64 ≡ k = omega arith in
        rw (e, get_or-set_same ws (c / 64) w 0 h) (each (k % 64) (omega arith) ∙ ap (λ (x : ℕ). P (eqb x c) (unpack (get_or ws (c / 64) 0) (k % 64))) q)
    go (no n) = rw (get_or-set_other ws (c / 64) (k / 64) w 0 n, ne_eqb k c (λ e. n (ap (λ (x : ℕ). x / 64) e))) (sym (keeps _))

-- the words with the digit of c
pub insert_word : (ws : List ℕ) (c : ℕ) → c / 64 < length ws → (k : ℕ) → words_have (set ws (c / 64) (bit_or (get_or ws (c / 64) 0) ((1 * 2 ^ (c % 64)) % 2 ^ 64))) k ≡ eqb k c || words_have ws k
insert_word ws c h = word_changed (λ p b. p || b) (λ b. refl) ws c _ h (λ j l.
    unpack_or (get_or ws (c / 64) 0) ((1 * 2 ^ (c % 64)) % 2 ^ 64) j ∙ or_comm (unpack (get_or ws (c / 64) 0) j) _
    ∙ ap (λ (t : Bool). t || unpack (get_or ws (c / 64) 0) j) (bit-here c (c / 64) j refl l))

-- and without it
pub remove_word : (ws : List ℕ) (c : ℕ) → c / 64 < length ws → (k : ℕ) → words_have (set ws (c / 64) (bit_and (get_or ws (c / 64) 0) (2 ^ 64 - 1 - (1 * 2 ^ (c % 64)) % 2 ^ 64))) k ≡ not (eqb k c) && words_have ws k
remove_word ws c h = word_changed (λ p b. not p && b) (λ b. refl) ws c _ h (λ j l.
    word_minus (get_or ws (c / 64) 0) ((1 * 2 ^ (c % 64)) % 2 ^ 64) (omega arith) j l ∙ and_comm (unpack (get_or ws (c / 64) 0) j) _
    ∙ ap (λ (t : Bool). not t && unpack (get_or ws (c / 64) 0) j) (bit-here c (c / 64) j refl l))

-- four words that are joined by `|` with those of others have the members of both
pub insert_words : (ws os out : List ℕ) → length ws ≡ 4 → length os ≡ 4 → length out ≡ 4
    → ((i : ℕ) → i < 4 → get_or out i 0 ≡ bit_or (get_or ws i 0) (get_or os i 0)) → (k : ℕ) → words_have out k ≡ words_have ws k || words_have os k
unfolding words_have
insert_words ws os out l m n each k = go (dec_lt (k / 64) 4)
  where
    go : Dec (k / 64 < 4) → unpack (get_or out (k / 64) 0) (k % 64) ≡ unpack (get_or ws (k / 64) 0) (k % 64) || unpack (get_or os (k / 64) 0) (k % 64)
    go (yes h) = rw (each (k / 64) h) (unpack_or (get_or ws (k / 64) 0) (get_or os (k / 64) 0) (k % 64))
    go (no h) = rw (get_or_past out (k / 64) 0 (omega arith), get_or_past ws (k / 64) 0 (omega arith), get_or_past os (k / 64) 0 (omega arith), unpack_zero (k % 64)) refl
