-- What callers want of sets of four words: nothing past 255, words that are settled by the members, and one or several more where a test passed. Assumes nothing.
use mathlib.Core.Path.{◌≡◌, refl, sym, ap, ◌∙◌}
use mathlib.Core.Bool.{Bool, beq, true, false, ◌&&◌, ◌||◌, and-true, and-false, or-false, or_comm}
use mathlib.Core.List.{List, [], ◌∷◌}
use Prim.Native.Nat.{ℕ, ◌+◌, ◌*◌, ◌/◌, ◌^◌, ◌≤◌, ◌<◌}
use native.Mathlib.Decide.{dec_lt}
use native.Mathlib.Omega.{arith}
use lib.Dec.{eqb}
use lib.ListN.{length, get_or, replicate, length-replicate, get_or-replicate, get_or-eq_default}
use lib.Seq.{ext_get_or}
use Rattle.rules.specs.Base.{all_below}
use Rattle.rules.specs.Sets.{Set}
use Rattle.rules.proofs.BaseLaws.{all_below_intro, all_below_at, eqb_sym}
use Rattle.layout.specs.Codec.{unpack}
use Rattle.cells.proofs.Digits.{unpack_ext}
use Rattle.words.specs.Members.{words_have}
use Rattle.sets.specs.Members.{members, agree}
use Rattle.sets.specs.declared.ChangeSet.{ChangeSet}
use Rattle.sets.proofs.Words.{of_words, place, by_words, each_of_4, word_zero}

-- no number from 256 on is a member
pub members_above : (s : ChangeSet) → length s.words ≡ 4 → (k : ℕ) → 256 ≤ k → members s k ≡ false
members_above s len k h = word_zero s k (get_or-eq_default s.words 0 {n = k / 64} (omega arith))

-- tests that agree below 256, and say no from there on, agree everywhere
everywhere : (f g : Set) → ((k : ℕ) → 256 ≤ k → f k ≡ false) → ((k : ℕ) → 256 ≤ k → g k ≡ false) → ((k : ℕ) → k < 256 → f k ≡ g k) → (k : ℕ) → f k ≡ g k
everywhere f g above over below k = go (dec_lt k 256)
  where
    go : Dec (k < 256) → f k ≡ g k
    go (yes l) = below k l
    go (no n) = above k (omega arith) ∙ sym (over k (omega arith))

-- four words hold the numbers that their digits say, and none from 256 on
pub words_are : (ws : List ℕ) (f : Set) → length ws ≡ 4 → ((k : ℕ) → 256 ≤ k → f k ≡ false) → ((i : ℕ) → i < 4 → (j : ℕ) → j < 64 → unpack (get_or ws i 0) j ≡ f (64 * i + j)) → (k : ℕ) → members (of_words ws) k ≡ f k
words_are ws f four above each = everywhere (members (of_words ws)) f (members_above (of_words ws) four) above (by_words (of_words ws) f each)

-- so where the four are given one by one
pub four_words : (f : Set) (a b c d : ℕ) → ((k : ℕ) → 256 ≤ k → f k ≡ false)
    → ((j : ℕ) → j < 64 → unpack a j ≡ f (64 * 0 + j))
    → ((j : ℕ) → j < 64 → unpack b j ≡ f (64 * 1 + j))
    → ((j : ℕ) → j < 64 → unpack c j ≡ f (64 * 2 + j))
    → ((j : ℕ) → j < 64 → unpack d j ≡ f (64 * 3 + j))
    → (k : ℕ) → members (of_words (a ∷ b ∷ c ∷ d ∷ [])) k ≡ f k
four_words f a b c d above wa wb wc wd = words_are (a ∷ b ∷ c ∷ d ∷ []) f refl above (each_of_4 (λ (i : ℕ). (j : ℕ) → j < 64 → unpack (get_or (a ∷ b ∷ c ∷ d ∷ []) i 0) j ≡ f (64 * i + j)) wa wb wc wd)

-- sets that agree below 256 agree everywhere
pub members-all : (s t : ChangeSet) → length s.words ≡ 4 → length t.words ≡ 4 → ((k : ℕ) → k < 256 → members s k ≡ members t k) → (k : ℕ) → members s k ≡ members t k
members-all s t ls lt = everywhere (members s) (members t) (members_above s ls) (members_above t lt)

-- words that are all 0 hold none
pub words_none : (s : ChangeSet) → length s.words ≡ 4 → ((i : ℕ) → i < 4 → get_or s.words i 0 ≡ 0) → (k : ℕ) → members s k ≡ false
words_none s len z = everywhere (members s) (λ _. false) (members_above s len) (λ _ _. refl) (λ k h. word_zero s k (z (k / 64) (omega arith)))

pub blank_words : (ws : List ℕ) → ws ≡ replicate 4 0 → (k : ℕ) → words_have ws k ≡ false
unfolding members
blank_words ws e = words_none (of_words ws) (ap length e ∙ length-replicate {A = ℕ} 4 0) (λ i h. rw e (get_or-replicate 4 i 0 0 h))

-- sets with the same members have the same words
pub members_ext : (s t : ChangeSet) → length s.words ≡ 4 → length t.words ≡ 4 → ((i : ℕ) → get_or s.words i 0 < 2 ^ 64) → ((i : ℕ) → get_or t.words i 0 < 2 ^ 64)
    → ((k : ℕ) → k < 256 → members s k ≡ members t k) → s ≡ t
members_ext s t ls lt fs ft h =
    ap (λ (ws : List ℕ). record { words = ws }) (ext_get_or 0 s.words t.words (ls ∙ sym lt) (λ i l.
    unpack_ext 64 (get_or s.words i 0) (get_or t.words i 0) (fs i) (ft i) (λ j m. sym (place s i j m) ∙ h (64 * i + j) (omega arith) ∙ place t i j m)))

-- tests of which it is tested that they are the same
beq_same : (a b : Bool) → beq a b ≡ true → a ≡ b
beq_same true true e = refl
beq_same true false e = sym e
beq_same false true e = e
beq_same false false e = refl

beq_refl : (a : Bool) → beq a a ≡ true
beq_refl true = refl
beq_refl false = refl

-- sets that agree below a bound have the same members there
pub agree_at : (n : ℕ) (s t : Set) → all_below n (agree s t) ≡ true → (k : ℕ) → k < n → s k ≡ t k
unfolding agree
agree_at n s t e k h = beq_same (s k) (t k) (all_below_at n (agree s t) e k h)

-- and the other way round
pub agree-all : (n : ℕ) (s t : Set) → ((k : ℕ) → k < n → s k ≡ t k) → all_below n (agree s t) ≡ true
unfolding agree
agree-all n s t h = all_below_intro n (agree s t) (λ k l. rw (h k l) (beq_refl (t k)))

-- MORE where a test passed: the members of another set
pub unite_passed : (s m s' test : Bool) → test ≡ true → s' ≡ s || m → s' ≡ s || m && test
unite_passed s m s' test t e = e ∙ rw (t, and-true m)

-- one, as `add` has it
pub add_passed : (c k : ℕ) (s s' test : Bool) → test ≡ true → s' ≡ eqb k c || s → s' ≡ s || eqb c k && test
add_passed c k s s' test t e = unite_passed s (eqb c k) s' test t (e ∙ or_comm (eqb k c) s ∙ rw (eqb_sym k c))

-- nothing where it failed
pub nothing_added : (s m test : Bool) → test ≡ false → s ≡ s || m && test
nothing_added s m test t = rw (t, and-false m, or-false s)
