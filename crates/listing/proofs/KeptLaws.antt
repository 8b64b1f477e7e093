-- Of a line above 64 bytes the first 65 are kept: they tell what the whole line would. Assumes nothing.
use mathlib.Core.Path.{◌≡◌, refl, ap}
use mathlib.Core.Bool.{Bool, true, false, cond, ◌&&◌}
use mathlib.Core.List.{List, [], ◌∷◌, ◌++◌}
use mathlib.Core.Option.{none}
use Prim.Native.Nat.{ℕ, zero, suc, ◌<◌}
use native.Mathlib.Nat.{le_of_suc-le-suc, not-suc-le-zero}
use native.Mathlib.Omega.{arith}
use lib.Dec.{eqb, leb}
use lib.ListN.{length, take}
use lib.Seq.{take_all, length-take-le}
use borrow.Author.Tests.{leb-true, leb-false}
use Rattle.layout.specs.Memory.{same_bytes}
use Rattle.text.specs.Decimal.{ascii}
use Rattle.text.specs.Parts.{parted_by}
use Rattle.script_calls.specs.Fields.{reply_of}
use Rattle.script_lines.specs.Lines.{fielded, line_call, reply_to}
use Rattle.listing.specs.Listing.{first_line}

-- MORE BYTES after what is kept
pub take-kept : (n : ℕ) (l k : List ℕ) → take n (take n l ++ k) ≡ take n (l ++ k)
take-kept zero l k = refl
take-kept (suc n) [] k = refl
take-kept (suc n) (x ∷ l) k = ap (λ (r : List ℕ). x ∷ r) (take-kept n l k)

-- THE CALL that a line asks for
call_kept : (l : List ℕ) → line_call (take 65 l) ≡ line_call l
unfolding line_call
call_kept l = go (leb (length l) 64) refl
  where
    go : (b : Bool) → leb (length l) 64 ≡ b → cond (leb (length (take 65 l)) 64) (fielded (parted_by 44 (take 65 l))) none ≡ cond (leb (length l) 64) (fielded (parted_by 44 l)) none
    go true e = ap (λ (r : List ℕ). cond (leb (length r) 64) (fielded (parted_by 44 r)) none) (take_all 65 l (omega (arith, leb-true (length l) 64 e)))
    go false e = rw (length-take-le 65 l (omega (arith, leb-false (length l) 64 e)), e)

pub reply-kept : (mem l : List ℕ) → reply_to mem (take 65 l) ≡ reply_to mem l
unfolding reply_to
reply-kept mem l = ap (reply_of mem) (call_kept l)

-- WHETHER IT IS THE FIRST LINE, which is shorter
same_kept : (n : ℕ) (l k : List ℕ) → length k < n → same_bytes (take n l) k ≡ same_bytes l k
unfolding same_bytes
same_kept zero l k h = absurd (not-suc-le-zero h)
same_kept (suc n) [] k h = refl
same_kept (suc n) (x ∷ l) [] h = refl
same_kept (suc n) (x ∷ l) (y ∷ k) h = ap (λ (b : Bool). eqb x y && b) (same_kept n l k (le_of_suc-le-suc h))

pub first-kept : (l : List ℕ) → same_bytes (take 65 l) first_line ≡ same_bytes l first_line
unfolding first_line ascii
first-kept l = same_kept 65 l first_line (omega arith)
