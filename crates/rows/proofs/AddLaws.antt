-- What adding a row comes to, by whether one of its key stands and whether there is room. Assumes nothing.
use mathlib.Core.Path.{◌≡◌, refl, sym, ap, ◌∙◌}
use mathlib.Core.Bool.{Bool, true, false, not, cond}
use mathlib.Core.List.{List}
use Prim.Native.Nat.{ℕ, ◌+◌, ◌-◌, ◌*◌, ◌≤◌, ◌<◌}
use native.Mathlib.Omega.{arith}
use lib.ListN.{length, get_or, set}
use lib.Dec.{eqb}
use borrow.Author.Tests.{eq-eqb, ne_eqb, eqb-true}
use Rattle.rules.specs.Base.{exceeds}
use Rattle.rules.specs.Locks.{contains}
use Rattle.rules.proofs.BaseLaws.{over_false, over_true}
use Rattle.rules.proofs.SortLaws.{length-insert}
use Rattle.cells.specs.Part.{part, patch}
use Rattle.rows.specs.Rows.{Row, row_key, rank, row_bytes, rows_bytes, row_at, rows, stands_at, unite_rows, add_row, unless_over, Stored}
use Rattle.rows.proofs.RowLaws.{length-rows, rows_same}
use Rattle.rows.proofs.PlaceLaws.{Placed, stands_below, added_new, length_new, added_old, length_old}
use Rattle.rows.proofs.StoreLaws.{put_in, set_more}

-- operations united: the same, or both
pub united_same : (old more : ℕ) → old ≡ more → old ≡ cond (contains old more) old 3
unfolding contains
united_same old more e = rw (eq-eqb old more e)

-- others make both
pub united_other : (old more : ℕ) → (old ≡ more → ⊥) → 3 ≡ cond (contains old more) old 3
unfolding contains
united_other old more h = rw (ne_eqb old more h) (go (eqb old 3) (eqb-true old 3))
  where
    go : (b : Bool) → (b ≡ true → old ≡ 3) → 3 ≡ cond b old 3
    go true f = sym (f refl)
    go false f = refl

-- a list that fits takes the other's place
pub unless_not {ℓ} : {A : Type ℓ} (most : ℕ) (new old : List A) → length new ≤ most → unless_over most new old ≡ new
unfolding unless_over
unless_not most new old h = rw (over_false (length new) most h)

-- a row more fits where there is room
pub fits_room : (l : List ℕ) (n most : ℕ) (x : Row) → n < most → true ≡ not (exceeds (length (add_row x (rows n l))) most)
unfolding add_row
fits_room l n most x h = sym (ap not (over_false _ most (omega (arith, (length-insert row_key unite_rows x (rows n l)).1, length-rows n l))))

-- `t` says whether a row of the key stands at its place
module _ (l : List ℕ) (n : ℕ) (x : Row) (at : ℕ) (p : Placed l n x at) (most : ℕ) (t : Bool) (et : t ≡ stands_at l n (rank x) at) where
  pub fits_full : n ≡ most → t ≡ not (exceeds (length (add_row x (rows n l))) most)
  fits_full e = go t refl
    where
      go : (u : Bool) → t ≡ u → u ≡ not (exceeds (length (add_row x (rows n l))) most)
      go true f = sym (ap not (over_false (length (add_row x (rows n l))) most (omega (arith, length_old l n x at p (sym et ∙ f)))))
      go false f = sym (ap not (over_true (length (add_row x (rows n l))) most (omega (arith, length_new l n x at p (sym et ∙ f)))))

  module _ (few : n ≤ most) (room : 4 * most ≤ length l) where
    -- it stands: united
    pub add_old : t ≡ true → (out : List ℕ) → out ≡ set l (4 * at + 3) (cond (contains (get_or l (4 * at + 3) 0) x.more) (get_or l (4 * at + 3) 0) 3)
        → Stored (unless_over most (add_row x (rows n l)) (rows n l)) l n out
    unfolding unite_rows row_at
    add_old f out e =
        let h : at < n = stands_below l n (rank x) at t et f in
        let long : length (add_row x (rows n l)) ≡ n = length_old l n x at p (sym et ∙ f) in
        rw (unless_not most (add_row x (rows n l)) (rows n l) (omega arith))
        (record {
          count = sym long;
          bytes = e ∙ set_more l n at (cond (contains (get_or l (4 * at + 3) 0) x.more) (get_or l (4 * at + 3) 0) 3) h (omega arith) ∙ ap (λ (rs : List Row). patch l 0 (rows_bytes rs)) (sym (added_old l n x at p (sym et ∙ f)));
        })

    -- it does not, and the table is full: nothing changes
    pub add_full : t ≡ false → n ≡ most → Stored (unless_over most (add_row x (rows n l)) (rows n l)) l n l
    unfolding unless_over
    add_full f e =
        rw (over_true (length (add_row x (rows n l))) most (omega (arith, length_new l n x at p (sym et ∙ f))))
        (record { count = sym (length-rows n l); bytes = sym (rows_same l n (omega arith)) })

    -- it does not, and there is room: put in
    pub add_new : t ≡ false → n < most → (up out : List ℕ) → up ≡ patch l (4 * at + 4) (part l (4 * at) (4 * n - 4 * at)) → out ≡ patch up (4 * at) (row_bytes x)
        → Stored (unless_over most (add_row x (rows n l)) (rows n l)) l (n + 1) out
    add_new f h up out eu eo =
        let long : length (add_row x (rows n l)) ≡ n + 1 = length_new l n x at p (sym et ∙ f) in
        rw (unless_not most (add_row x (rows n l)) (rows n l) (omega arith))
        (record {
          count = sym long;
          bytes = eo ∙ ap (λ (y : List ℕ). patch y (4 * at) (row_bytes x)) eu ∙ put_in l n at x p.within (omega arith) ∙ ap (λ (rs : List Row). patch l 0 (rows_bytes rs)) (sym (added_new l n x at p (sym et ∙ f)));
        })
