-- Ties noted in rows of words: a number more in a row, what a tie adds to the rows, what the first ties do. Assumes nothing.
use mathlib.Core.Path.{◌≡◌, sym, ap, ap₂, ◌∙◌}
use mathlib.Core.Bool.{Bool, true, false, ◌&&◌, ◌||◌, and-true, and-false, or-false, or_comm, or_assoc}
use mathlib.Core.List.{List}
use Prim.Native.Nat.{ℕ, ◌+◌, ◌*◌, ◌/◌, ◌%◌, ◌^◌, ◌<◌}
use native.Mathlib.Decide.{dec_lt}
use native.Mathlib.Numerals.{add-one}
use native.Mathlib.Omega.{arith}
use borrow.Author.Tests.{eq-eqb, ne_eqb, eqb-true, lt-ltb, le-ltb}
use lib.Bits.{bit_or}
use lib.Dec.{eqb}
use lib.ListN.{length, get_or, set}
use Rattle.rules.specs.Base.{any_below}
use Rattle.rules.specs.Window.{TieRecord}
use Rattle.rules.specs.Ties.{is_group}
use Rattle.rules.proofs.BaseLaws.{and_both, and_left, and_right, both_ways}
use Rattle.layout.specs.Records.{tie_at}
use Rattle.words.specs.Members.{words_have}
use Rattle.words.proofs.BitLaws.{insert_word}
use Rattle.passes.specs.Passes.{follows}
use Rattle.passes.specs.TieRows.{gone_along, gone_at, gone_in, row_has}

-- a row's numbers are members of the words of all rows
row_words : (rows : List ℕ) (x y : ℕ) → y < 256 → row_has rows x y ≡ words_have rows (x * 256 + y)
unfolding row_has words_have
row_words rows x y h = let p : (x * 256 + y) / 64 ≡ x * 4 + y / 64 = omega arith in let q : (x * 256 + y) % 64 ≡ y % 64 = omega arith in rw (lt-ltb y 256 h, p, q)

-- one number more in a row
pub noted : (rows : List ℕ) (a b : ℕ) → length rows ≡ 1024 → a < 256 → b < 256 → (x y : ℕ)
    → row_has (set rows (a * 4 + b / 64) (bit_or (get_or rows (a * 4 + b / 64) 0) ((1 * 2 ^ (b % 64)) % 2 ^ 64))) x y ≡ row_has rows x y || eqb x a && eqb y b
noted rows a b len ha hb x y = go (dec_lt y 256)
  where
    pair : y < 256 → eqb (x * 256 + y) (a * 256 + b) ≡ eqb x a && eqb y b
    pair h = both_ways _ _
        (λ e. let q : x * 256 + y ≡ a * 256 + b = eqb-true (x * 256 + y) (a * 256 + b) e in and_both _ _ (eq-eqb x a (omega arith)) (eq-eqb y b (omega arith)))
        (λ e. eq-eqb (x * 256 + y) (a * 256 + b) (ap₂ (λ (p q : ℕ). p * 256 + q) (eqb-true x a (and_left (eqb x a) (eqb y b) e)) (eqb-true y b (and_right (eqb x a) (eqb y b) e))))

    go : Dec (y < 256) → row_has (set rows (a * 4 + b / 64) (bit_or (get_or rows (a * 4 + b / 64) 0) ((1 * 2 ^ (b % 64)) % 2 ^ 64))) x y ≡ row_has rows x y || eqb x a && eqb y b
    go (yes h) =
        let p : (a * 256 + b) / 64 ≡ a * 4 + b / 64 = omega arith in
        let q : (a * 256 + b) % 64 ≡ b % 64 = omega arith in
        row_words _ x y h ∙ rw (p, q) at (insert_word rows (a * 256 + b) (omega arith) (x * 256 + y))
        ∙ or_comm (eqb (x * 256 + y) (a * 256 + b)) (words_have rows (x * 256 + y)) ∙ ap₂ ◌||◌ (sym (row_words rows x y h)) (pair h)
    go (no n) = unfold row_has in rw (le-ltb y 256 (omega arith), ne_eqb y b (λ e. n (omega arith)), and-false (eqb x a))

-- A TIE, by whether it is gone along and whether it is a group's
along_as : (low : ℕ) (t : TieRecord) (f g : Bool) → follows low t.kind ≡ f → is_group t.kind ≡ g → (x y : ℕ) → gone_along low t x y ≡ eqb x t.leader && (eqb y t.follower && f) || eqb x t.follower && (eqb y t.leader && g)
unfolding gone_along
along_as low t f g p q x y = rw (p, q)

module _ (low : ℕ) (t : TieRecord) (x y : ℕ) (h : Bool) where
  -- both ways
  pub along_both : follows low t.kind ≡ true → is_group t.kind ≡ true → (h || eqb x t.leader && eqb y t.follower) || eqb x t.follower && eqb y t.leader ≡ h || gone_along low t x y
  along_both p q = or_assoc h _ _ ∙ ap (λ (b : Bool). h || b) (sym (along_as low t true true p q x y ∙ rw (and-true (eqb y t.follower), and-true (eqb y t.leader))))

  -- one way
  pub along_one : follows low t.kind ≡ true → is_group t.kind ≡ false → h || eqb x t.leader && eqb y t.follower ≡ h || gone_along low t x y
  along_one p q = ap (λ (b : Bool). h || b) (sym (along_as low t true false p q x y ∙ rw (and-true (eqb y t.follower), and-false (eqb y t.leader), and-false (eqb x t.follower), or-false (eqb x t.leader && eqb y t.follower))))

  -- none
  pub along_none : follows low t.kind ≡ false → is_group t.kind ≡ false → h ≡ h || gone_along low t x y
  along_none p q = sym (rw (along_as low t false false p q x y, and-false (eqb y t.follower), and-false (eqb y t.leader), and-false (eqb x t.leader), and-false (eqb x t.follower)) (or-false h))

-- one tie more
pub ties-more : (low : ℕ) (bs : List ℕ) (j x y : ℕ) (h h₀ t : Bool) → t ≡ h || gone_along low (tie_at bs j) x y → h ≡ h₀ || gone_in low bs j x y → t ≡ h₀ || gone_in low bs (j + 1) x y
unfolding gone_in gone_at any_below
ties-more low bs j x y h h₀ t e q = e ∙ rw (q, add-one j) (or_assoc h₀ _ _)

-- none yet
pub ties_none : (low : ℕ) (bs : List ℕ) (x y : ℕ) (h : Bool) → h ≡ h || gone_in low bs 0 x y
unfolding gone_in any_below
ties_none low bs x y h = sym (or-false h)
