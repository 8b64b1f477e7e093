-- A range of bytes that is zero, and one that is zero past a table. Assumes nothing.
use mathlib.Core.Path.{◌≡◌, sym, ◌∙◌}
use mathlib.Core.Logic.{◌↔◌}
use mathlib.Core.Bool.{Bool, true, false, not, ◌&&◌}
use mathlib.Core.List.{List}
use Prim.Native.Nat.{ℕ, ◌+◌, ◌-◌, ◌≤◌, ◌<◌}
use native.Mathlib.Numerals.{add-one}
use native.Mathlib.Omega.{arith}
use lib.ListN.{get_or}
use lib.Dec.{eqb}
use lib.Bits.{bit_or, or_add_and, and_le_l, and_le_r}
use borrow.Author.Tests.{eq-eqb, eqb-true}
use Rattle.rules.specs.Base.{all_below}
use Rattle.rules.proofs.BaseLaws.{and_both, and_left, and_right, no_true, both_ways, Below, under, over, below, all_below_intro, all_below_at}
use Rattle.rules.proofs.TurnLaws.{failed, held, refused}
use Rattle.cells.specs.Part.{byte_is}

-- of an or that is zero both are
pub or_zero : (a b : ℕ) → bit_or a b ≡ 0 → (a ≡ 0) × (b ≡ 0)
or_zero a b e = (omega (arith, or_add_and a b, and_le_r a b), omega (arith, or_add_and a b, and_le_l a b))

-- and it is zero where both are
or_test : (a b : ℕ) → eqb (bit_or a b) 0 ≡ eqb a 0 && eqb b 0
or_test a b = both_ways _ _
    (λ e. let p = or_zero a b (eqb-true (bit_or a b) 0 e) in and_both _ _ (eq-eqb a 0 p.0) (eq-eqb b 0 p.1))
    (λ e. eq-eqb (bit_or a b) 0 (omega (arith, or_add_and a b, eqb-true a 0 (and_left (eqb a 0) (eqb b 0) e), eqb-true b 0 (and_right (eqb a 0) (eqb b 0) e))))

-- one byte more
pub zero_more : (l : List ℕ) (at i acc : ℕ) → eqb acc 0 ≡ all_below i (byte_is l at 0) → eqb (bit_or acc (get_or l (at + i) 0)) 0 ≡ all_below (i + 1) (byte_is l at 0)
unfolding all_below byte_is
zero_more l at i acc e = rw (add-one, sym e) (or_test acc (get_or l (at + i) 0))

-- the test, by elements: what it shows
pub zeros_at : (l : List ℕ) (from to : ℕ) → all_below (to - from) (byte_is l from 0) ≡ true → (i : ℕ) → from ≤ i → i < to → get_or l i 0 ≡ 0
unfolding byte_is
zeros_at l from to e i h k =
    let here : from + (i - from) ≡ i = omega arith in
    eqb-true (get_or l i 0) 0 (rw here at (all_below_at (to - from) (byte_is l from 0) e (i - from) (omega arith)))

-- and what shows it
pub zeros_all : (l : List ℕ) (from to : ℕ) → ((i : ℕ) → from ≤ i → i < to → get_or l i 0 ≡ 0) → all_below (to - from) (byte_is l from 0) ≡ true
unfolding byte_is
zeros_all l from to f = all_below_intro (to - from) (byte_is l from 0) (λ i h. eq-eqb (get_or l (from + i) 0) 0 (f (from + i) (omega arith) (omega arith)))

-- after bytes that are zero up to mid: the test from a byte that is not past mid says what the whole one says
zeros_rest : (l : List ℕ) (from last mid to : ℕ) → from ≤ last → last ≤ mid → all_below (mid - from) (byte_is l from 0) ≡ true
    → all_below (to - last) (byte_is l last 0) ≡ all_below (to - from) (byte_is l from 0)
zeros_rest l from last mid to h k e =
    both_ways _ _ (λ r. zeros_all l from to (λ i x y. go r i x y (below i mid))) (λ r. zeros_all l last to (λ i x y. zeros_at l from to r i (omega arith) y))
  where
    go : all_below (to - last) (byte_is l last 0) ≡ true → (i : ℕ) → from ≤ i → i < to → {b : Bool} → Below i mid b → get_or l i 0 ≡ 0
    go r i x y (under z) = zeros_at l from mid e i x z
    go r i x y (over z) = zeros_at l last to r i (omega arith) y

-- what the code found of a block, r, by where the block begins and ends
block : (l : List ℕ) (at n : ℕ) (r : Bool) → r ≡ all_below n (byte_is l at 0) → r ≡ all_below (at + n - at) (byte_is l at 0)
block l at n r f = let size : at + n - at ≡ n = omega arith in rw size f

-- a block that passes
pub block_passed : (l : List ℕ) (from mid n : ℕ) (r : Bool) → from ≤ mid → all_below (mid - from) (byte_is l from 0) ≡ true
    → r ≡ all_below n (byte_is l mid 0) → not r ≡ false → all_below (mid + n - from) (byte_is l from 0) ≡ true
block_passed l from mid n r h e f t = sym (zeros_rest l from mid mid (mid + n) h (omega arith) e) ∙ held (block l mid n r f) t

-- one that does not
pub block_failed : (l : List ℕ) (from mid n to : ℕ) (r : Bool) → from ≤ mid → mid + n ≤ to
    → r ≡ all_below n (byte_is l mid 0) → not r ≡ true → false ≡ all_below (to - from) (byte_is l from 0)
block_failed l from mid n to r h k f t =
    sym (no_true (all_below (to - from) (byte_is l from 0)) (λ a. failed (block l mid n r f) t (zeros_all l mid (mid + n) (λ i x y. zeros_at l from to a i (omega arith) (omega arith)))))

-- the last one, which may begin among the bytes that are zero
pub block_last : (l : List ℕ) (from mid n to : ℕ) (r : Bool) → from + n ≤ to → to ≤ mid + n → all_below (mid - from) (byte_is l from 0) ≡ true
    → r ≡ all_below n (byte_is l (to - n) 0) → r ≡ all_below (to - from) (byte_is l from 0)
block_last l from mid n to r h k e f =
    let ends : to - n + n ≡ to = omega arith in
    rw ends at (block l (to - n) n r f) ∙ zeros_rest l from (to - n) mid to (omega arith) (omega arith) e

-- a table of n places that each pass a test, and zeros past it
pub record Tested (n : ℕ) (p : ℕ → Bool) (l : List ℕ) (from to : ℕ) : Type 0 where
  pub fine : all_below n p ≡ true
  pub rest : all_below (to - from) (byte_is l from 0) ≡ true

-- where that decides A: a place that fails refuses A, and else the zeros decide it. r is what the code found of the places, z of the zeros
module _ {A : Type 0} {n : ℕ} {p : ℕ → Bool} {l : List ℕ} {from to : ℕ} (d : Tested n p l from to ↔ A) {r : Bool} (e : r ≡ all_below n p) where
  pub places_failed : not r ≡ true → false ≡ true ↔ A
  places_failed t = refused (λ a. failed e t (d.1 a).fine)

  pub places_passed : not r ≡ false → {z : Bool} → z ≡ all_below (to - from) (byte_is l from 0) → z ≡ true ↔ A
  places_passed t f = (λ q. d.0 (record { fine = held e t; rest = sym f ∙ q }), λ a. f ∙ (d.1 a).rest)
