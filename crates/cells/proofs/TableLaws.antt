-- A part of a table replaced. Assumes nothing.
use mathlib.Core.Path.{◌≡◌, sym, ◌∙◌, ap}
use Prim.Native.Nat.{ℕ, ◌+◌, ◌-◌, ◌≤◌, ◌<◌}
use native.Mathlib.Decide.{dec_lt}
use native.Mathlib.Omega.{arith}
use lib.ListN.{length, get_or}
use lib.Seq.{ext_get_or}
use Rattle.rules.specs.Base.{table}
use Rattle.layout.proofs.SectionLaws.{length-table, get_or_table0}
use Rattle.cells.specs.Part.{patch}
use Rattle.cells.proofs.PartLaws.{length-patch, get_or-patch, get_or-patch-before, get_or-patch-after}

-- a table with a part replaced is the table of a function that agrees with both
pub patch-table : (size at n : ℕ) (f g h : ℕ → ℕ) → at + n ≤ size → ((i : ℕ) → i < n → g i ≡ h (at + i)) → ((i : ℕ) → i < size → (at ≤ i → i < at + n → ⊥) → f i ≡ h i)
    → patch (table size 0 f) at (table n 0 g) ≡ table size 0 h
patch-table size at n f g h room inner outer = ext_get_or 0 (patch (table size 0 f) at (table n 0 g)) (table size 0 h) (same_length ∙ sym (length-table size 0 h))
    (λ i l. let m : i < size = omega (arith, same_length) in each i m (dec_lt i at) (dec_lt i (at + n)) ∙ sym (get_or_table0 size h i 0 m))
  where
    whole : length (table size 0 f) ≡ size
    whole = length-table size 0 f

    middle : length (table n 0 g) ≡ n
    middle = length-table n 0 g

    same_length : length (patch (table size 0 f) at (table n 0 g)) ≡ size
    same_length = length-patch (table size 0 f) at (table n 0 g) (omega (arith, whole, middle)) ∙ whole

    each : (i : ℕ) → i < size → Dec (i < at) → Dec (i < at + n) → get_or (patch (table size 0 f) at (table n 0 g)) i 0 ≡ h i
    each i m (yes b) _ = get_or-patch-before (table size 0 f) at (table n 0 g) i b (omega (arith, whole)) ∙ get_or_table0 size f i 0 m ∙ outer i m (λ x y. omega arith)
    each i m (no b) (yes c) =
        let q : at + (i - at) ≡ i = omega arith in
        ap (λ (x : ℕ). get_or (patch (table size 0 f) at (table n 0 g)) x 0) (sym q)
        ∙ get_or-patch (table size 0 f) at (table n 0 g) n (i - at) middle (omega (arith, whole)) (omega arith)
        ∙ get_or_table0 n g (i - at) 0 (omega arith) ∙ inner (i - at) (omega arith) ∙ ap h q
    each i m (no b) (no c) = get_or-patch-after (table size 0 f) at (table n 0 g) i (omega (arith, middle)) (omega (arith, whole)) ∙ get_or_table0 size f i 0 m ∙ outer i m (λ x y. c y)
