-- Permits one after the other, and block by block. Assumes nothing.
use mathlib.Core.Path.{◌≡◌, refl, sym, ap, ◌∙◌}
use mathlib.Core.Bool.{Bool, false, ◌||◌, or-false, or_assoc, false≢true}
use mathlib.Core.List.{List, [], ◌∷◌}
use Prim.Native.Nat.{ℕ, zero, suc, ◌+◌, ◌*◌, ◌≤◌, ◌<◌}
use native.Mathlib.Omega.{arith}
use lib.Dec.{eqb}
use lib.ListN.{length, get_or, get_or-append, drop}
use Rattle.std.specs.List.{flat_map}
use Rattle.std.specs.Simd.{first_chunks}
use Rattle.std.proofs.lemmas.List.{get_or-append_right, get_or-drop}
use Rattle.rules.specs.Base.{any_below}
use Rattle.rules.specs.Window.{PermitRecord}
use Rattle.rules.proofs.BaseLaws.{any_below_none, none_below}
use Rattle.layout.specs.Records.{permit_at}
use Rattle.cells.specs.Part.{byte_is}
use Rattle.beside.specs.Permits.{any_of}
use Rattle.few_permits.specs.Rows.{permit_row}
use Rattle.few_permits.proofs.RowLaws.{row_is, row_len}
use Rattle.many_permits.specs.Named.{involves}

-- ONE OF THE FIRST N
module _ (t : ℕ → PermitRecord) (p : PermitRecord → Bool) where
  -- none yet
  pub any_none : false ≡ any_of 0 t p
  unfolding any_of any_below
  any_none = refl

  -- none of some passes
  pub any_nothing : (n : ℕ) → ((k : ℕ) → k < n → p (t k) ≡ false) → any_of n t p ≡ false
  unfolding any_of
  any_nothing n none = none_below n (λ k. p (t k)) (λ k h q. false≢true (sym (none k h) ∙ q))

  -- those before a place, and some from there on
  pub any_after : (u : ℕ → PermitRecord) (i n : ℕ) → ((k : ℕ) → k < n → u k ≡ t (i + k)) → any_of i t p || any_of n u p ≡ any_of (i + n) t p
  unfolding any_of any_below
  any_after u i zero h = let same : i ≡ i + zero = omega arith in or-false (any_of i t p) ∙ ap (λ (k : ℕ). any_of k t p) same
  any_after u i (suc n) h = let next : suc (i + n) ≡ i + suc n = omega arith in
      sym (or_assoc (any_of i t p) (any_of n u p) (p (u n))) ∙ ap (λ (b : Bool). b || p (u n)) (any_after u i n (λ k l. h k (omega arith)))
      ∙ ap (λ (q : PermitRecord). any_of (i + n) t p || p q) (h n (omega arith)) ∙ ap (λ (m : ℕ). any_of m t p) next

-- A BLOCK OF PERMITS
-- byte i of row j, among the bytes of all rows
row_byte : (rows : List (List ℕ)) → ((k : ℕ) → k < length rows → length (get_or rows k []) ≡ 4) → (j i : ℕ) → j < length rows → i < 4 → get_or (flat_map (λ row. row) rows) (j * 4 + i) 0 ≡ get_or (get_or rows j []) i 0
row_byte [] four j i h l = absurd (omega arith)
row_byte (r ∷ rows) four zero i h l = let own : length r ≡ 4 = four 0 (omega arith) in ap (λ (k : ℕ). get_or (flat_map (λ row. row) (r ∷ rows)) k 0) (omega arith) ∙ get_or-append r (flat_map (λ row. row) rows) 0 i (omega arith)
row_byte (r ∷ rows) four (suc j) i h l =
    let own : length r ≡ 4 = four 0 (omega arith) in
    get_or-append_right r (flat_map (λ row. row) rows) 4 (suc j * 4 + i) 0 own (omega arith) ∙ ap (λ (k : ℕ). get_or (flat_map (λ row. row) rows) k 0) (omega arith) ∙ row_byte rows (λ k m. four (suc k) (omega arith)) j i (omega arith) l

-- a change whose number is none of its bytes gives and takes none of its permits
pub block_none : (rows : List (List ℕ)) → ((k : ℕ) → k < length rows → length (get_or rows k []) ≡ 4) → (c : ℕ) (found : Bool) → found ≡ any_below (length rows * 4) (byte_is (flat_map (λ row. row) rows) 0 c) → found ≡ false
    → (k : ℕ) → k < length rows → involves c (permit_row rows k) ≡ false
unfolding byte_is involves permit_row permit_at
block_none rows four c found e f k h =
    let byte : (i : ℕ) → i < 4 → eqb (get_or (get_or rows k []) i 0) c ≡ false
    = λ i l. let place : 0 + (k * 4 + i) ≡ k * 4 + i = omega arith in rw (sym (row_byte rows four k i h l)) (rw place at (any_below_none (length rows * 4) (byte_is (flat_map (λ row. row) rows) 0 c) (sym e ∙ f) (k * 4 + i) (omega arith))) in
    rw (byte 1 (omega arith), byte 2 (omega arith))

-- IN CHUNKS OF n
-- row k of chunk b, and of what is left after the chunks, among all rows
pub chunk_rows : (n m : ℕ) (rows : List (List ℕ)) (chunks : List (List (List ℕ))) → chunks ≡ first_chunks n m rows → (b k : ℕ) → b < m → k < n → permit_row (get_or chunks b []) k ≡ permit_row rows (b * n + k)
unfolding permit_row
chunk_rows n m rows chunks e b k h l = rw e (ap (λ (row : List ℕ). permit_at row 0) (row_is n m rows b k [] [] h l))

pub last_rows : (i : ℕ) (rows last : List (List ℕ)) → last ≡ drop i rows → (k : ℕ) → permit_row last k ≡ permit_row rows (i + k)
unfolding permit_row
last_rows i rows last e k = rw e (ap (λ (row : List ℕ). permit_at row 0) (get_or-drop i rows k []))

-- what holds of the rows of some chunks, or a flag, and then of those of one more, or of what is left
module _ (rows : List (List ℕ)) (p : PermitRecord → Bool) (b x y : Bool) where
  more : (i n w : ℕ) (part : List (List ℕ)) → ((k : ℕ) → k < n → permit_row part k ≡ permit_row rows (i + k)) → i + n ≡ w → x ≡ b || any_of i (permit_row rows) p → y ≡ x || any_of n (permit_row part) p → y ≡ b || any_of w (permit_row rows) p
  more i n w part same next e f =
      f ∙ ap (λ (c : Bool). c || any_of n (permit_row part) p) e ∙ or_assoc b (any_of i (permit_row rows) p) (any_of n (permit_row part) p)
      ∙ ap (λ (c : Bool). b || c) (any_after (permit_row rows) p (permit_row part) i n same) ∙ ap (λ (k : ℕ). b || any_of k (permit_row rows) p) next

  pub chunk_next : (n m i w : ℕ) (chunks : List (List (List ℕ))) → chunks ≡ first_chunks n m rows → i < m → m * n ≤ length rows → i * n + n ≡ w
      → x ≡ b || any_of (i * n) (permit_row rows) p → y ≡ x || any_of (length (get_or chunks i [])) (permit_row (get_or chunks i [])) p → y ≡ b || any_of w (permit_row rows) p
  chunk_next n m i w chunks cut here long next e f =
      let own : length (get_or chunks i []) ≡ n = ap (λ (c : List (List (List ℕ))). length (get_or c i [])) cut ∙ row_len n m rows i [] long here in
      more (i * n) n w (get_or chunks i []) (λ k h. chunk_rows n m rows chunks cut i k here h) next e (f ∙ ap (λ (k : ℕ). x || any_of k (permit_row (get_or chunks i [])) p) own)

  pub chunks_done : (i : ℕ) (last : List (List ℕ)) → last ≡ drop i rows → i + length last ≡ length rows
      → x ≡ b || any_of i (permit_row rows) p → y ≡ x || any_of (length last) (permit_row last) p → y ≡ b || any_of (length rows) (permit_row rows) p
  chunks_done i last cut all = more i (length last) (length rows) last (λ k h. last_rows i rows last cut k) all
