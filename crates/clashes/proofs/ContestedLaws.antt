-- Whether an entry has a writer and another holder, from the bytes of its sets. Assumes nothing.
use mathlib.Core.Path.{◌≡◌, sym, ◌∙◌, ap}
use mathlib.Core.Bool.{Bool, true, false, not, ◌&&◌, false≢true, not-not}
use mathlib.Core.List.{List}
use Prim.Native.Nat.{ℕ, suc, ◌+◌, ◌*◌, ◌/◌, ◌%◌, ◌≤◌, ◌<◌}
use native.Mathlib.Omega.{arith}
use lib.Dec.{ltb, eqb}
use lib.ListN.{length, get_or}
use borrow.Author.Tests.{eq-eqb, eqb-true, ne_eqb, not-true}
use Rattle.rules.specs.Base.{all_below, any_below, lowest_below}
use Rattle.rules.specs.Sets.{Set}
use Rattle.rules.proofs.BaseLaws.{Same, same, other, same?, and_both, and_left, and_right, both_ways, any_intro, any_elim, any_below_none, none_below, all_below_intro, all_below_at}
use Rattle.layout.specs.Codec.{lock_section}
use Rattle.layout.proofs.SectionLaws.{Bytes}
use Rattle.cells.specs.Part.{byte_is}
use Rattle.cells.proofs.Digits.{unpack_zero, unpack_ext}
use Rattle.sets.specs.Members.{loaded}
use Rattle.sets.proofs.Bytes.{loaded_full}
use Rattle.rules.proofs.BoundLaws.{any_ext, lowest_hit}
use Rattle.locks.specs.Held.{in_mode}
use Rattle.locks.proofs.SectionLaws.{row_loaded}
use Rattle.beside.specs.Beside.{holder, other_holder}
use Rattle.clashes.specs.Contested.{contested}

-- A SET'S BYTES
-- it has a member where they are not all 0
pub any-loaded : (bs : List ℕ) (at : ℕ) → at + 32 ≤ length bs → Bytes bs → (r : Bool) → r ≡ all_below 32 (byte_is bs at 0) → not r ≡ any_below 256 (loaded bs at)
unfolding byte_is
any-loaded bs at room b r e = ap not (e ∙ both_ways (all_below 32 (byte_is bs at 0)) (not (any_below 256 (loaded bs at)))
    (λ z. ap not (none_below 256 (loaded bs at) (λ k h t.
    let none : get_or bs (at + k / 8) 0 ≡ 0 = eqb-true (get_or bs (at + k / 8) 0) 0 (all_below_at 32 (byte_is bs at 0) z (k / 8) (omega arith)) in
    false≢true (sym (loaded_full bs at room k h ∙ rw none (unpack_zero (k % 8))) ∙ t))))
    (λ q. all_below_intro 32 (byte_is bs at 0) (λ i h. eq-eqb (get_or bs (at + i) 0) 0 (unpack_ext 8 (get_or bs (at + i) 0) 0 (b (at + i)) (omega arith) (λ j l.
    let x : (i * 8 + j) / 8 ≡ i = omega arith in
    let y : (i * 8 + j) % 8 ≡ j = omega arith in
    sym (rw (x, y) at (loaded_full bs at room (i * 8 + j) (omega arith))) ∙ any_below_none 256 (loaded bs at) (not-true _ q) (i * 8 + j) (omega arith) ∙ sym (unpack_zero j))))))
    ∙ not-not (any_below 256 (loaded bs at))

-- a set of an entry's row: its readers (m is 0) or its writers (m is 1)
pub any-in_mode : {bs : List ℕ} (held : ℕ → ℕ → ℕ) → bs ≡ lock_section held → (e m : ℕ) {at : ℕ} → e < 256 → m < 2 → at ≡ e * 64 + m * 32
    → {found : Bool} → found ≡ any_below 256 (loaded bs at) → found ≡ any_below 256 (in_mode (suc m) (held e))
any-in_mode held section e m {at} he hm place q = q ∙ rw section (any_ext _ _ 256 (λ k h. row_loaded held e m at he hm place k))

-- a reader is no writer
pub modes_apart : (row : ℕ → ℕ) (k : ℕ) → in_mode 1 row k ≡ true → in_mode 2 row k ≡ true → ⊥
unfolding in_mode
modes_apart row k r x = omega (arith, eqb-true (row k) 1 (and_right (ltb k 256) _ r), eqb-true (row k) 2 (and_right (ltb k 256) _ x))

-- A WRITER AND ANOTHER HOLDER
module _ (r x : Set) where
  -- there is no writer
  pub contested_not : any_below 256 x ≡ false → false ≡ contested r x
  unfolding contested
  contested_not e = sym (none_below 256 _ (λ a h f. false≢true (sym (any_below_none 256 x e a h) ∙ and_left (x a) _ f)))

  -- there is a reader, who is no writer
  pub contested_reader : ((k : ℕ) → r k ≡ true → x k ≡ true → ⊥) → any_below 256 x ≡ true → any_below 256 r ≡ true → true ≡ contested r x
  unfolding contested other_holder holder
  contested_reader apart ex er =
      let (a, ha, xa) = any_elim 256 x ex in
      let (b, hb, rb) = any_elim 256 r er in
      sym (any_intro 256 _ a ha (and_both (x a) _ xa (any_intro 256 _ b hb (rw (ne_eqb b a (λ p. apart b rb (rw p xa)), rb)))))

  -- there is no reader: a writer besides one of them
  contested_at : (a : ℕ) → a < 256 → x a ≡ true → any_below 256 r ≡ false → any_below 256 (λ k. not (eqb k a) && x k) ≡ contested r x
  unfolding contested other_holder holder
  contested_at a ha e none = both_ways _ _
      (λ f. let (b, hb, o) = any_elim 256 _ f in
      any_intro 256 _ a ha (and_both (x a) _ e (any_intro 256 _ b hb (rw (any_below_none 256 r none b hb) o))))
      (λ f. let (c, hc, g) = any_elim 256 _ f in let (b, hb, o) = any_elim 256 _ (and_right (x c) _ g) in
      go c hc (and_left (x c) _ g) b hb (rw (any_below_none 256 r none b hb) at o) (same? c a))
    where
      go : (c : ℕ) → c < 256 → x c ≡ true → (b : ℕ) → b < 256 → not (eqb b c) && x b ≡ true → {i : Bool} → Same c a i → any_below 256 (λ k. not (eqb k a) && x k) ≡ true
      go c hc xc b hb o (same p) = any_intro 256 _ b hb (rw p at o)
      go c hc xc b hb o (other n) = any_intro 256 _ c hc (rw (ne_eqb c a n, xc))

  -- x' are the writers in code, and `others` those without the lowest
  pub contested-writers : (x' : Set) → ((k : ℕ) → x' k ≡ x k) → any_below 256 x ≡ true → any_below 256 r ≡ false
      → (others : Set) → ((k : ℕ) → others k ≡ not (eqb k (lowest_below 256 x')) && x' k) → (none : Bool) → none ≡ not (any_below 256 others) → not none ≡ contested r x
  contested-writers x' hx ex er others ho none e =
      let hit = lowest_hit x' 256 (any_ext x' x 256 (λ k h. hx k) ∙ ex) in
      ap not e ∙ not-not (any_below 256 others) ∙ any_ext others _ 256 (λ k h. ho k ∙ rw (hx k)) ∙ contested_at (lowest_below 256 x') hit.0 (sym (hx _) ∙ hit.1) er

-- where there is none, no writer has another holder beside it
pub contested_none : (r x : Set) → contested r x ≡ false → (a b : ℕ) → a < 256 → b < 256 → x a ≡ true → other_holder r x a b ≡ true → ⊥
unfolding contested
contested_none r x e a b ha hb xa o = false≢true (sym e ∙ any_intro 256 _ a ha (and_both (x a) _ xa (any_intro 256 (other_holder r x a) b hb o)))
