-- The walk over an entry's rows that finds the givers. Assumes nothing.
use mathlib.Core.Path.{◌≡◌, refl, sym, ap, ap₂, ◌∙◌}
use mathlib.Core.Logic.{⊎_elim}
use mathlib.Core.Bool.{Bool, true, false, ◌&&◌, ◌||◌, and-true, and-false, and_assoc, or-false, or_assoc}
use mathlib.Core.List.{List}
use Prim.Native.Nat.{ℕ, zero, suc, ◌+◌, ◌-◌, ◌≤◌, ◌<◌}
use native.Mathlib.Nat.{eq-or-lt_of_le}
use native.Mathlib.Omega.{arith}
use lib.Dec.{eqb}
use lib.ListN.{length}
use borrow.Author.Tests.{eq-eqb, ne_eqb}
use Rattle.rules.specs.Base.{table, any, rising}
use Rattle.rules.specs.Window.{PermitRecord, permit_key}
use Rattle.rules.specs.Locks.{contains, permitted}
use Rattle.rules.proofs.ListLaws.{any_join}
use Rattle.layout.specs.Codec.{permit_section}
use Rattle.layout.proofs.SectionLaws.{Bytes}
use Rattle.rows.specs.Rows.{Row, row_key, rank_of, rank, row_at, rows, KeyPlace}
use Rattle.rows.proofs.OrderLaws.{Small, small_at, ranks_rise}
use Rattle.rows.proofs.RowLaws.{rows_split}
use Rattle.rows.proofs.TableLaws.{table-any}
use Rattle.permits.specs.PermitRows.{serves}
use Rattle.permits.proofs.PermitLaws.{permit_row, permit_table}

-- a row is a permit of the giver's, to the taker or to anybody, on the entry, that contains the mode
unfoldable pub grants : ℕ → ℕ → ℕ → ℕ → Row → Bool
grants giver taker entry mode r = eqb r.k2 giver && (eqb r.k3 taker || eqb r.k3 0) && eqb r.k1 entry && contains r.more mode

-- a row of the entry
grants_here : (g taker entry mode : ℕ) (r : Row) → r.k1 ≡ entry → grants g taker entry mode r ≡ eqb r.k2 g && serves taker mode r
unfolding grants serves
grants_here g taker entry mode r e =
    rw (eq-eqb r.k1 entry e, and-true (eqb r.k2 g && (eqb r.k3 taker || eqb r.k3 0))) (and_assoc (eqb r.k2 g) (eqb r.k3 taker || eqb r.k3 0) (contains r.more mode))

-- a row of another entry does not count
grants_other : (g taker entry mode : ℕ) (r : Row) → (r.k1 ≡ entry → ⊥) → grants g taker entry mode r ≡ false
unfolding grants
grants_other g taker entry mode r h = rw (ne_eqb r.k1 entry h, and-false (eqb r.k2 g && (eqb r.k3 taker || eqb r.k3 0)))

-- tests over lists
-- none of a table passes
any_none {ℓ} : {A : Type ℓ} (p : A → Bool) (n i : ℕ) (f : ℕ → A) → ((j : ℕ) → i ≤ j → j < i + n → p (f j) ≡ false) → any p (table n i f) ≡ false
unfolding any table
any_none p zero i f h = refl
any_none p (suc n) i f h = rw (h i (omega arith) (omega arith)) (any_none p n (suc i) f (λ j a b. h j (omega arith) (omega arith)))

-- THE WALK over the first n rows of l
-- the givers among the rows from place i on
unfoldable pub ahead : List ℕ → ℕ → ℕ → ℕ → ℕ → ℕ → ℕ → Bool
ahead l n taker entry mode i k = any (grants k taker entry mode) (table (n - i) i (row_at l))

-- none of which has a lower entry
abbrev pub FromEntry : List ℕ → ℕ → ℕ → ℕ → Type 0
FromEntry l n entry i = (j : ℕ) → i ≤ j → j < n → entry ≤ (row_at l j).k1

module _ (l : List ℕ) (n taker entry mode : ℕ) where
  -- the rows before the entry's place do not count
  pub walk_from : (at : ℕ) → at ≤ n → KeyPlace l n (rank_of entry 0 0) at → (k : ℕ) → ahead l n taker entry mode at k ≡ any (grants k taker entry mode) (rows n l)
  unfolding ahead
  walk_from at h f k =
      sym (ap (any (grants k taker entry mode)) (rows_split l n at h) ∙ any_join (grants k taker entry mode) (table at 0 (row_at l)) (table (n - at) at (row_at l))
      ∙ ap (λ (x : Bool). x || any (grants k taker entry mode) (table (n - at) at (row_at l))) (any_none (grants k taker entry mode) at 0 (row_at l) (λ j g e. grants_other k taker entry mode (row_at l j) (before j (omega arith)))))
    where
      before : (j : ℕ) → j < at → (row_at l j).k1 ≡ entry → ⊥
      before j g e = let low : rank (row_at l j) < rank_of entry 0 0 = f.lower j g in unfold rank in omega arith

  -- from its place on no row has a lower entry
  pub walk_entry : Bytes l → (at : ℕ) → KeyPlace l n (rank_of entry 0 0) at → FromEntry l n entry at
  walk_entry b at f j h g = let s : Small (row_at l j) = small_at l b j in let high : rank_of entry 0 0 ≤ rank (row_at l j) = f.higher j h g in unfold rank in omega arith

  -- the next row is of the entry: its giver may be noted
  pub walk_next : (i : ℕ) → i < n → (row_at l i).k1 ≡ entry → (k : ℕ) (m m' all : Bool) → m || ahead l n taker entry mode i k ≡ all
      → m' ≡ m || (eqb (row_at l i).k2 k && serves taker mode (row_at l i)) → m' || ahead l n taker entry mode (i + 1) k ≡ all
  walk_next i h e k m m' all inv em =
      ap₂ (λ (x y : Bool). x || y) em refl ∙ or_assoc m (eqb (row_at l i).k2 k && serves taker mode (row_at l i)) (ahead l n taker entry mode (i + 1) k) ∙ ap (λ (x : Bool). m || x) (sym next) ∙ inv
    where
      next : ahead l n taker entry mode i k ≡ (eqb (row_at l i).k2 k && serves taker mode (row_at l i)) || ahead l n taker entry mode (i + 1) k
      next = unfold ahead any table in
          let d : n - i ≡ suc (n - (i + 1)) = omega arith in
          let f : i + 1 ≡ suc i = omega arith in
          rw (d, f) (ap (λ (x : Bool). x || any (grants k taker entry mode) (table (n - suc i) (suc i) (row_at l))) (grants_here k taker entry mode (row_at l i) e))

  -- it is not: no later one is
  pub walk_stop : Bytes l → rising row_key (rows n l) ≡ true → (i : ℕ) → i < n → FromEntry l n entry i → ((row_at l i).k1 ≡ entry → ⊥) → (k : ℕ) (m all : Bool) → m || ahead l n taker entry mode i k ≡ all → m ≡ all
  walk_stop b r i h from e k m all inv = rw (none, or-false m) at inv
    where
      above : entry < (row_at l i).k1
      above = ⊎_elim (λ q. absurd (e (sym q))) (λ q. q) (eq-or-lt_of_le (from i (omega arith) h))

      past : (j : ℕ) → i ≤ j → j < i + (n - i) → (row_at l j).k1 ≡ entry → ⊥
      past j g f q = ⊎_elim (λ a. e (ap (λ (x : ℕ). (row_at l x).k1) a ∙ q)) later (eq-or-lt_of_le g)
        where
          later : i < j → ⊥
          later a =
              let s : Small (row_at l i) = small_at l b i in
              let t : Small (row_at l j) = small_at l b j in
              let up : rank (row_at l i) < rank (row_at l j) = ranks_rise l n b r i j a (omega arith) in
              unfold rank in omega (arith, above)

      none : ahead l n taker entry mode i k ≡ false
      none = unfold ahead in any_none (grants k taker entry mode) (n - i) i (row_at l) (λ j g f. grants_other k taker entry mode (row_at l j) (past j g f))

  -- there is none
  pub walk_end : (i : ℕ) → i ≡ n → (k : ℕ) (m all : Bool) → m || ahead l n taker entry mode i k ≡ all → m ≡ all
  unfolding ahead any table
  walk_end i h k m all inv = let z : n - i ≡ 0 = omega arith in rw (z, or-false m) at inv

-- and the rows' givers are the permits'
pub givers_permitted : (ps : List PermitRecord) (n : ℕ) (bytes : List ℕ) → length ps ≡ n → bytes ≡ permit_section ps → n ≤ 1024 → (k taker entry mode : ℕ) (x : Bool)
    → x ≡ any (grants k taker entry mode) (rows n bytes) → x ≡ permitted ps k taker entry mode
unfolding permitted grants permit_row
givers_permitted ps n bytes len is few k taker entry mode x e =
    e ∙ table-any permit_row permit_key permit_section 1024 permit_table ps n bytes len is few (grants k taker entry mode) (λ p. eqb p.giver k && (eqb p.taker taker || eqb p.taker 0) && eqb p.entry entry && contains p.ops mode) (λ p. refl)
