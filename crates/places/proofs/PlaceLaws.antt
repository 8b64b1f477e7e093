-- A section that has w bytes for each of n places: a place read, a byte and a place stored. Assumes nothing.
use mathlib.Core.Path.{◌≡◌, sym, ap, ◌∙◌}
use mathlib.Core.Logic.{◌≢◌}
use mathlib.Core.Bool.{Bool}
use mathlib.Core.List.{List}
use Prim.Native.Nat.{ℕ, ◌+◌, ◌*◌, ◌≤◌, ◌<◌}
use native.Mathlib.Nat.{mul-le-mul_right, suc-mul}
use native.Mathlib.Omega.{arith}
use lib.Arith.{digits_lt}
use lib.ListN.{length, get_or, set, length-set}
use lib.Seq.{ext_get_or}
use Rattle.rules.specs.Base.{table}
use Rattle.rules.proofs.BaseLaws.{Same, same, other, same?, Below, under, over, below}
use Rattle.layout.proofs.SectionLaws.{length-table}
use Rattle.layout.proofs.RecordLaws.{placed, cell_read, by_cells}
use Rattle.cells.specs.Part.{part, patch}
use Rattle.cells.proofs.PartLaws.{length_part, length-patch, get_or_part, get_or-patch, get_or-patch-before, get_or-patch-after, set-part}

-- another function of places: bs at place k, and elsewhere the same
pub record Stored (f : ℕ → List ℕ) (k : ℕ) (bs : List ℕ) (g : ℕ → List ℕ) : Type 0 where
  pub here : g k ≡ bs
  pub there : (j : ℕ) → j ≢ k → g j ≡ f j

module _ (w n : ℕ) where
  in_section : (k : ℕ) → k < n → k * w + w ≤ n * w
  in_section k h = rw (suc-mul k w) at (mul-le-mul_right w h)

  -- a place read
  pub place_read : (f : ℕ → List ℕ) (k : ℕ) → k < n → length (f k) ≡ w → part (table (n * w) 0 (placed w f)) (k * w) w ≡ f k
  place_read f k h e =
      let long : length (table (n * w) 0 (placed w f)) ≡ n * w = length-table (n * w) 0 (placed w f) in
      let size : length (part (table (n * w) 0 (placed w f)) (k * w) w) ≡ w = length_part (table (n * w) 0 (placed w f)) (k * w) w (rw long (in_section k h)) in
      ext_get_or 0 (part (table (n * w) 0 (placed w f)) (k * w) w) (f k) (size ∙ sym e)
      (λ j t. let u : j < w = rw size at t in get_or_part (table (n * w) 0 (placed w f)) (k * w) w j u ∙ cell_read w n f k j h u)

  -- a section is known by its n places
  pub by_places : 0 < w → (f g : ℕ → List ℕ) → ((k : ℕ) → k < n → f k ≡ g k) → table (n * w) 0 (placed w f) ≡ table (n * w) 0 (placed w g)
  by_places pos f g e = by_cells w n pos (table (n * w) 0 (placed w f)) g (length-table (n * w) 0 (placed w f)) (λ k j h t. cell_read w n f k j h t ∙ ap (λ (x : List ℕ). get_or x j 0) (e k h))

  -- a place stored
  pub place_store : 0 < w → (f g : ℕ → List ℕ) (k : ℕ) (bs : List ℕ) → k < n → length bs ≡ w → Stored f k bs g
      → patch (table (n * w) 0 (placed w f)) (k * w) bs ≡ table (n * w) 0 (placed w g)
  place_store pos f g k bs h e s = by_cells w n pos (patch l (k * w) bs) g (length-patch l (k * w) bs (rw (e, long) (in_section k h)) ∙ long) (λ q r hq hr. go q r hq hr (same? q k))
    where
      l : List ℕ
      l = table (n * w) 0 (placed w f)

      long : length l ≡ n * w
      long = length-table (n * w) 0 (placed w f)

      before : (q r : ℕ) → q ≢ k → r < w → {b : Bool} → Below q k b → get_or (patch l (k * w) bs) (q * w + r) 0 ≡ get_or l (q * w + r) 0
      before q r ne hr (under t) = get_or-patch-before l (k * w) bs (q * w + r) (digits_lt t hr) (omega (arith, long, in_section k h))
      before q r ne hr (over t) = let u : k < q = omega arith in
          get_or-patch-after l (k * w) bs (q * w + r) (omega (arith, e, suc-mul k w, mul-le-mul_right w u)) (omega (arith, long, in_section k h))

      go : (q r : ℕ) → q < n → r < w → {b : Bool} → Same q k b → get_or (patch l (k * w) bs) (q * w + r) 0 ≡ get_or (g q) r 0
      go q r hq hr (same u) = rw u (get_or-patch l (k * w) bs w r e (omega (arith, long, in_section k h)) hr ∙ ap (λ (x : List ℕ). get_or x r 0) (sym s.here))
      go q r hq hr (other u) = before q r u hr (below q k) ∙ cell_read w n f q r hq hr ∙ ap (λ (x : List ℕ). get_or x r 0) (sym (s.there q u))

  -- a byte stored
  pub cell_store : (f g : ℕ → List ℕ) (k j v : ℕ) → k < n → j < w → length (f k) ≡ w → Stored f k (set (f k) j v) g
      → set (table (n * w) 0 (placed w f)) (k * w + j) v ≡ table (n * w) 0 (placed w g)
  cell_store f g k j v h t e s =
      let l : List ℕ = table (n * w) 0 (placed w f) in
      set-part l (k * w) w j v (rw (length-table (n * w) 0 (placed w f)) (in_section k h)) t
      ∙ ap (λ (x : List ℕ). patch l (k * w) (set x j v)) (place_read f k h e) ∙ place_store (omega arith) f g k (set (f k) j v) h (length-set (f k) j v ∙ e) s
