-- The place of a key, as std finds it among the rows by their bytes. Assumes nothing.
use mathlib.Core.Path.{◌≡◌, refl, sym, ap, ◌∙◌}
use mathlib.Core.Bool.{true, false}
use mathlib.Core.List.{List, []}
use mathlib.Core.Logic.{⊎_elim}
use Prim.Native.Nat.{ℕ, ◌*◌, ◌/◌, ◌≤◌, ◌<◌}
use native.Mathlib.Nat.{eq-or-lt_of_le}
use native.Mathlib.Omega.{arith}
use lib.Dec.{ltb}
use lib.ListN.{length, get_or, take}
use lib.Seq.{get_or-take, length-take-le}
use borrow.Author.Tests.{ltb-true, ltb-false, lt-ltb}
use Rattle.std.specs.List.Sorted.{IsPartitionPoint, IsPartitionedBy}
use Rattle.std.specs.Simd.{first_chunks}
use Rattle.rules.specs.Base.{rising}
use Rattle.layout.proofs.SectionLaws.{Bytes}
use Rattle.cells.specs.Part.{part}
use Rattle.rows.specs.Rows.{row_key, rank, row_of, row_bytes, row_at, rows, KeyPlace}
use Rattle.rows.proofs.OrderLaws.{ranks_rise}
use Rattle.rows.proofs.RowLaws.{row-part}
use Rattle.rows.proofs.RetainLaws.{chunk_at, length-chunks}

-- the row of four bytes is known by them
row_back : (l : List ℕ) (i : ℕ) → row_of (row_bytes (row_at l i)) ≡ row_at l i
unfolding row_of row_bytes
row_back l i = refl

module _ (l : List ℕ) (n k at : ℕ) (b : Bytes l) (room : 4 * n ≤ length l) where
  -- the first n rows of those that the bytes are
  abbrev pub front : List (List ℕ)
  front = take n (first_chunks 4 (length l / 4) l)

  front_len : length front ≡ n
  front_len = length-take-le n (first_chunks 4 (length l / 4) l) (omega (arith, length-chunks 4 (length l / 4) l))

  front_at : (i : ℕ) (d : List ℕ) → i < n → row_of (get_or front i d) ≡ row_at l i
  front_at i d h =
      ap row_of (get_or-take n (first_chunks 4 (length l / 4) l) i d h ∙ chunk_at 4 (length l / 4) i l d (omega arith) ∙ ap (λ (j : ℕ). part l j 4) (omega arith) ∙ sym (row-part l i (omega arith)))
      ∙ row_back l i

  -- where rows that are lower come first, the point where they end is the key's place
  pub place_found : rising row_key (rows n l) ≡ true
      → (IsPartitionedBy (λ x. ltb (rank (row_of x)) k) front → IsPartitionPoint (λ x. ltb (rank (row_of x)) k ≡ true) (λ x. ltb (rank (row_of x)) k ≡ false) front at)
      → at ≤ n → KeyPlace l n k at
  place_found e f few =
      let parted : IsPartitionedBy (λ x. ltb (rank (row_of x)) k) front = λ i j d h g p.
      let low : rank (row_at l j) < k = rw (front_at j d (omega (arith, front_len))) at (ltb-true _ k p) in
      lt-ltb _ k (rw (front_at i d (omega (arith, front_len))) (⊎_elim (λ q. rw q low) (λ q. omega (arith, ranks_rise l n b e i j q (omega (arith, front_len)))) (eq-or-lt_of_le h))) in
      let point = f parted in
      record {
        lower = λ j h. rw (front_at j [] (omega arith)) at (ltb-true _ k (point.0 j [] (omega arith) h));
        higher = λ j h g. rw (front_at j [] g) at (ltb-false _ k (point.1 j [] h (rw front_len g)));
      }
