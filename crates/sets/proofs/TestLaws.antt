-- What the tests of whole words come to: no member, the same members, the lowest member. Assumes nothing.
use mathlib.Core.Path.{◌≡◌, refl, sym, ap, ◌∙◌}
use mathlib.Core.Bool.{false, not, ◌&&◌, false≢true, and-false}
use mathlib.Core.List.{List}
use Prim.Native.Nat.{ℕ, ◌+◌, ◌*◌, ◌^◌, ◌<◌}
use native.Mathlib.Decide.{ℕ_discrete}
use native.Mathlib.Omega.{arith}
use borrow.Author.Tests.{eq-eqb, ne_eqb, eqb-true, not-true}
use lib.Bits.{bit_or}
use lib.Count.{count_trailing_zeros}
use lib.Dec.{eqb}
use lib.ListN.{length, get_or}
use lib.Pointwise.{pointwise, bytes_decides}
use Rattle.rules.specs.Base.{any_below, all_below, lowest_below}
use Rattle.rules.proofs.BaseLaws.{both_ways, none_below, any_below_none, eqb_iff}
use Rattle.layout.specs.Codec.{unpack}
use Rattle.cells.proofs.Digits.{unpack_zero, unpack_ext, trailing_hit}
use Rattle.sets.specs.Members.{members, agree}
use Rattle.sets.specs.declared.ChangeSet.{ChangeSet}
use Rattle.rules.proofs.BoundLaws.{lowest_is}
use Rattle.sets.proofs.Words.{of_words, place, each_of_4, or_four, low_at}
use Rattle.sets.proofs.MemberLaws.{members_above, words_are, words_none, members_ext, agree_at, agree-all}

-- the words joined by `|`
abbrev united : List ℕ → ℕ
united w = bit_or (bit_or (bit_or (get_or w 0 0) (get_or w 1 0)) (get_or w 2 0)) (get_or w 3 0)

-- where each word is 0 the lowest member is 256, and there is nothing to take away
module _ (s : ChangeSet) (len : length s.words ≡ 4) (z : (i : ℕ) → i < 4 → get_or s.words i 0 ≡ 0) where
  pub lowest_nothing : 256 ≡ lowest_below 256 (members s)
  lowest_nothing = sym (lowest_is (members s) 256 256 (omega arith) (λ q. absurd (omega arith)) (λ k q. words_none s len z k))

  pub rest_nothing : (k : ℕ) → members s k ≡ not (eqb k (lowest_below 256 (members s))) && members s k
  rest_nothing k = rw (words_none s len z k, and-false (not (eqb k (lowest_below 256 (members s)))))

-- the first word that is not 0 holds the lowest member
pub lowest_word : (s : ChangeSet) (i r : ℕ) → get_or s.words i 0 < 2 ^ 64 → i < 4 → 0 < get_or s.words i 0 → ((j : ℕ) → j < i → get_or s.words j 0 ≡ 0)
    → 64 * i + count_trailing_zeros 64 (get_or s.words i 0) ≡ r → r ≡ lowest_below 256 (members s)
lowest_word s i r fits h p z e =
    let l = low_at s i h fits p z in
    sym (lowest_is (members s) 256 r (omega (arith, l.0)) (λ q. rw (← e) l.1) (λ k q. l.2 k (omega arith)))

module _ (s : ChangeSet) (len : length s.words ≡ 4) (fits : (i : ℕ) → get_or s.words i 0 < 2 ^ 64) where
  -- a set with no member has words that are 0
  none_zero : any_below 256 (members s) ≡ false → (i : ℕ) → i < 4 → get_or s.words i 0 ≡ 0
  none_zero e i h = unpack_ext 64 (get_or s.words i 0) 0 (fits i) (omega arith)
      (λ j l. sym (place s i j l) ∙ any_below_none 256 (members s) e (64 * i + j) (omega arith) ∙ sym (unpack_zero j))

  -- the words joined by `|` are 0 just where there is no member
  pub empty_test : eqb (united s.words) 0 ≡ not (any_below 256 (members s))
  empty_test = both_ways _ _
      (λ e. let z = or_four _ _ _ _ (eqb-true _ 0 e) in
      rw (none_below 256 (members s) (λ k h q. false≢true (sym (words_none s len (each_of_4 (λ (i : ℕ). get_or s.words i 0 ≡ 0) z.0 z.1 z.2 z.3) k) ∙ q))))
      (λ e. let z = none_zero (not-true _ e) in
      eq-eqb (united s.words) 0 (rw (z 0 (omega arith), z 1 (omega arith), z 2 (omega arith), z 3 (omega arith))))

  -- without the lowest bit of the first word that is not 0, the words hold all members but the lowest
  module _ (i v : ℕ) (ws : List ℕ) (h : i < 4) (some : 0 < get_or s.words i 0) (zeros : (j : ℕ) → j < i → get_or s.words j 0 ≡ 0)
      (bits : (j : ℕ) → j < 64 → unpack v j ≡ not (eqb j (count_trailing_zeros 64 (get_or s.words i 0))) && unpack (get_or s.words i 0) j)
      (four : length ws ≡ 4) (here : get_or ws i 0 ≡ v) (elsewhere : (g : ℕ) → g < 4 → (g ≡ i → ⊥) → get_or ws g 0 ≡ get_or s.words g 0) where
    abbrev low : ℕ
    low = count_trailing_zeros 64 (get_or s.words i 0)

    word_but : (g : ℕ) → g < 4 → (j : ℕ) → j < 64 → unpack (get_or ws g 0) j ≡ not (eqb (64 * g + j) (64 * i + low)) && members s (64 * g + j)
    word_but g hg j hj = go (ℕ_discrete g i)
      where
        go : Dec (g ≡ i) → unpack (get_or ws g 0) j ≡ not (eqb (64 * g + j) (64 * i + low)) && members s (64 * g + j)
        go (yes e) = rw (e, here, place s i j hj, eqb_iff (64 * i + j) (64 * i + low) j low (λ q. omega arith) (λ q. omega arith)) (bits j hj)
        go (no n) = rw (elsewhere g hg n, place s g j hj, ne_eqb (64 * g + j) (64 * i + low) (λ q. n (omega (arith, (trailing_hit 64 (get_or s.words i 0) (fits i) some).0))))

    pub rest_words : (k : ℕ) → members (of_words ws) k ≡ not (eqb k (lowest_below 256 (members s))) && members s k
    rest_words k = rw (← lowest_word s i (64 * i + low) (fits i) h some zeros refl)
        (words_are ws (λ k. not (eqb k (64 * i + low)) && members s k) four (λ k l. rw (members_above s len k l, and-false (not (eqb k (64 * i + low))))) word_but k)

-- the words are the same just where the members agree
pub equal_test : (s t : ChangeSet) → length s.words ≡ 4 → length t.words ≡ 4 → ((i : ℕ) → get_or s.words i 0 < 2 ^ 64) → ((i : ℕ) → get_or t.words i 0 < 2 ^ 64)
    → pointwise eqb s.words t.words ≡ all_below 256 (agree (members s) (members t))
equal_test s t ls lt fs ft = both_ways _ _ (λ e. agree-all 256 (members s) (members t) (λ k h. ap (λ (ws : List ℕ). members (of_words ws) k) ((bytes_decides s.words t.words).0 e)))
    (λ e. (bytes_decides s.words t.words).1 (ap (λ (x : ChangeSet). x.words) (members_ext s t ls lt fs ft (agree_at 256 (members s) (members t) e))))
