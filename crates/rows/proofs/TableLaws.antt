-- A table of records, each of which is a row: what the calls on rows come to in its records. Permits and ties are the two. Assumes nothing.
use mathlib.Core.Path.{◌≡◌, refl, sym, ap, ap₂, ◌∙◌}
use mathlib.Core.Bool.{Bool, true, false, not, cond, ◌&&◌, ◌||◌}
use mathlib.Core.List.{List, [], ◌∷◌, ◌++◌, append-nil, map, foldr, flat_map}
use Prim.Native.Nat.{ℕ, ◌+◌, ◌-◌, ◌*◌, ◌≤◌, Ordering}
use native.Mathlib.Omega.{arith}
use lib.ListN.{length, replicate, length-map}
use Rattle.rules.specs.Base.{Key, order, by_order, is_lt, all, any, keep, exceeds, insert, rising}
use Rattle.rules.specs.Sets.{Set}
use Rattle.rules.proofs.BaseLaws.{within_of}
use Rattle.rules.proofs.ListLaws.{length-keep}
use Rattle.rules.proofs.SortLaws.{length-insert}
use Rattle.layout.specs.Records.{Tabled}
use Rattle.cells.specs.Part.{patch}
use Rattle.rows.specs.Rows.{Row, row_key, row_bytes, rows_bytes, rows, unite_rows, add_row, unless_over, spared, Stored, Closed}
use Rattle.rows.proofs.RowLaws.{length-bytes, rows_bytes_lem, patch_zeros}
use Rattle.rows.proofs.CloseLaws.{closed-few}

-- LISTS OF RECORDS AND OF THEIR ROWS
module _ {A : Type 0} (f : A → Row) where
  -- the records' bytes are their rows' bytes
  pub flat_rows : (bytes : A → List ℕ) → ((x : A) → bytes x ≡ row_bytes (f x)) → (l : List A) → flat_map bytes l ≡ rows_bytes (map f l)
  unfolding flat_map
  flat_rows bytes h [] = refl
  flat_rows bytes h (x ∷ l) = ap₂ (λ (a b : List ℕ). a ++ b) (h x) (flat_rows bytes h l)

  -- the rows of the records that pass
  pub keep-map : (q : Row → Bool) (p : A → Bool) → ((x : A) → q (f x) ≡ p x) → (l : List A) → keep q (map f l) ≡ map f (keep p l)
  unfolding keep
  keep-map q p h [] = refl
  keep-map q p h (x ∷ l) = ap (λ (b : Bool). cond b (f x ∷ keep q (map f l)) (keep q (map f l))) (h x) ∙ go (p x) (keep-map q p h l)
    where
      go : (b : Bool) → keep q (map f l) ≡ map f (keep p l) → cond b (f x ∷ keep q (map f l)) (keep q (map f l)) ≡ map f (cond b (x ∷ keep p l) (keep p l))
      go true e = ap (λ (t : List Row). f x ∷ t) e
      go false e = e

  -- one of the records passes where one of their rows does
  any-map : (q : Row → Bool) (p : A → Bool) → ((x : A) → q (f x) ≡ p x) → (l : List A) → any q (map f l) ≡ any p l
  unfolding any
  any-map q p h [] = refl
  any-map q p h (x ∷ l) = ap₂ (λ (a b : Bool). a || b) (h x) (any-map q p h l)

  -- all pass where their rows do
  all_map : (q : Row → Bool) (p : A → Bool) → ((x : A) → q (f x) ≡ p x) → (l : List A) → all q (map f l) ≡ all p l
  unfolding all
  all_map q p h [] = refl
  all_map q p h (x ∷ l) = ap₂ (λ (a b : Bool). a && b) (h x) (all_map q p h l)

  -- the rows of a list that took another's place, or did not
  unless_map : (most : ℕ) (new old : List A) → unless_over most (map f new) (map f old) ≡ map f (unless_over most new old)
  unfolding unless_over
  unless_map most new old = rw (length-map new f) (go (exceeds (length new) most))
    where
      go : (b : Bool) → cond b (map f old) (map f new) ≡ map f (cond b old new)
      go true = refl
      go false = refl

  module _ (key : A → Key) (keyed : (x : A) → row_key (f x) ≡ key x) where
    -- records are in order where their rows are
    rising-map : (l : List A) → rising row_key (map f l) ≡ rising key l
    unfolding rising
    rising-map [] = refl
    rising-map (x ∷ l) =
        ap₂ (λ (a b : Bool). a && b) (all_map (λ y. is_lt (order (row_key (f x)) (row_key y))) (λ y. is_lt (order (key x) (key y))) (λ y. ap₂ (λ (j k : Key). is_lt (order j k)) (keyed x) (keyed y)) l) (rising-map l)

    module _ (unite : A → A → A) (united : (x y : A) → f (unite x y) ≡ unite_rows (f x) (f y)) where
      -- the rows after a record is added
      added_map : (x : A) (l : List A) → add_row (f x) (map f l) ≡ map f (insert key unite x l)
      unfolding add_row insert by_order
      added_map x [] = refl
      added_map x (y ∷ l) = rw (keyed x, keyed y) (go (order (key x) (key y)) (added_map x l))
        where
          go : (o : Ordering) → add_row (f x) (map f l) ≡ map f (insert key unite x l)
              → by_order o (f x ∷ f y ∷ map f l) (unite_rows (f x) (f y) ∷ map f l) (f y ∷ insert row_key unite_rows (f x) (map f l)) ≡ map f (by_order o (x ∷ y ∷ l) (unite x y ∷ l) (y ∷ insert key unite x l))
          go Ordering.lt e = refl
          go Ordering.eq e = ap (λ (z : Row). z ∷ map f l) (sym (united x y))
          go Ordering.gt e = ap (λ (t : List Row). f y ∷ t) e

      -- and after several are
      pub added_all-map : (xs l : List A) → foldr add_row (map f l) (map f xs) ≡ map f (foldr (insert key unite) l xs)
      added_all-map [] l = refl
      added_all-map (x ∷ xs) l = ap (add_row (f x)) (added_all-map xs l) ∙ added_map x (foldr (insert key unite) l xs)

-- a list in another's place is no shorter, where it was no shorter
unless_least : {A : Type 0} (most : ℕ) (new old : List A) → length old ≤ length new → length old ≤ length (unless_over most new old)
unfolding unless_over
unless_least most new old h = go (exceeds (length new) most)
  where
    go : (b : Bool) → length old ≤ length (cond b old new)
    go true = omega arith
    go false = h

-- and no longer than the largest figure
unless_most : {A : Type 0} (most : ℕ) (new old : List A) → length old ≤ most → length (unless_over most new old) ≤ most
unfolding unless_over
unless_most most new old h = go (exceeds (length new) most) refl
  where
    go : (b : Bool) → exceeds (length new) most ≡ b → length (cond b old new) ≤ most
    go true e = h
    go false e = within_of (length new) most (ap not e)

-- THE TABLE
pub record TableOf {A : Type 0} (f : A → Row) (key : A → Key) (section : List A → List ℕ) (most : ℕ) : Type 0 where
  -- its bytes are the rows' bytes and zeros
  pub flat : (l : List A) → length l ≤ most → section l ≡ rows_bytes (map f l) ++ replicate ((most - length l) * 4) 0
  -- a row's key is the record's
  pub keyed : (x : A) → row_key (f x) ≡ key x

-- n records `l`, whose section is `bytes`
module _ {A : Type 0} (f : A → Row) (key : A → Key) (section : List A → List ℕ) (most : ℕ) (t : TableOf f key section most)
    (l : List A) (n : ℕ) (bytes : List ℕ) (len : length l ≡ n) (is : bytes ≡ section l) (few : n ≤ most) where
  -- the section's rows are the records' rows
  pub table-rows : rows n bytes ≡ map f l
  table-rows =
      ap (rows n) (is ∙ t.flat l (omega arith))
      ∙ ap (λ (k : ℕ). rows k (rows_bytes (map f l) ++ replicate ((most - length l) * 4) 0)) (sym len ∙ sym (length-map l f))
      ∙ rows_bytes_lem (map f l) (replicate ((most - length l) * 4) 0)

  -- they are in order where the records are
  pub table-rising : rising key l ≡ true → rising row_key (rows n bytes) ≡ true
  table-rising r = ap (rising row_key) table-rows ∙ rising-map f key t.keyed l ∙ r

  -- records and zeros stored at the front of the section
  stored_zeros : (l' : List A) (z : ℕ) → n ≤ length l' + z → length l' + z ≤ most → patch bytes 0 (rows_bytes (map f l') ++ replicate (4 * z) 0) ≡ section l'
  stored_zeros l' z lo hi =
      let e : length (rows_bytes (map f l)) ≡ 4 * length l = length-bytes (map f l) ∙ ap (λ (k : ℕ). 4 * k) (length-map l f) in
      let e' : length (rows_bytes (map f l')) ≡ 4 * length l' = length-bytes (map f l') ∙ ap (λ (k : ℕ). 4 * k) (length-map l' f) in
      let k : length (rows_bytes (map f l)) + (most - length l) * 4 - length (rows_bytes (map f l')) ≡ (most - length l') * 4 = omega arith in
      ap (λ (y : List ℕ). patch y 0 (rows_bytes (map f l') ++ replicate (4 * z) 0)) (is ∙ t.flat l (omega arith))
      ∙ patch_zeros (rows_bytes (map f l)) (rows_bytes (map f l')) ((most - length l) * 4) (4 * z) (omega arith) (omega arith)
      ∙ ap (λ (j : ℕ). rows_bytes (map f l') ++ replicate j 0) k
      ∙ sym (t.flat l' (omega arith))

  -- records stored over those of the table, no fewer than they were
  pub table-stored : (l' : List A) (r : ℕ) (after : List ℕ) → n ≤ length l' → length l' ≤ most → Stored (map f l') bytes r after → Tabled section l' r after
  table-stored l' r after lo hi s = record {
    count = s.count ∙ length-map l' f;
    bytes = s.bytes ∙ ap (patch bytes 0) (sym (append-nil (rows_bytes (map f l')))) ∙ stored_zeros l' 0 (omega arith) (omega arith);
  }

  -- those that pass, closed up
  pub table-closed : (q : Row → Bool) (p : A → Bool) → ((x : A) → q (f x) ≡ p x) → (r : ℕ) (after : List ℕ) → Closed q n bytes r after → Tabled section (keep p l) r after
  table-closed q p h r after c =
      let kept : keep q (rows n bytes) ≡ map f (keep p l) = ap (keep q) table-rows ∙ keep-map f q p h l in
      let count : r ≡ length (keep p l) = c.count ∙ ap length kept ∙ length-map (keep p l) f in
      let fewer : length (keep p l) ≤ length l = length-keep p l in
      let z : 4 * n - 4 * r ≡ 4 * (n - length (keep p l)) = omega arith in
      record {
        count = count;
        bytes = c.bytes ∙ ap₂ (λ (rs : List Row) (k : ℕ). patch bytes 0 (rows_bytes rs ++ replicate k 0)) kept z ∙ stored_zeros (keep p l) (n - length (keep p l)) (omega arith) (omega arith);
      }

  -- one that passes
  pub table-any : (q : Row → Bool) (p : A → Bool) → ((x : A) → q (f x) ≡ p x) → any q (rows n bytes) ≡ any p l
  table-any q p h = ap (any q) table-rows ∙ any-map f q p h l

  -- a record added
  module _ (unite : A → A → A) (united : (x y : A) → f (unite x y) ≡ unite_rows (f x) (f y)) (x : A) where
    added : add_row (f x) (rows n bytes) ≡ map f (insert key unite x l)
    added = ap (add_row (f x)) table-rows ∙ added_map f key t.keyed unite united x l

    -- it fits where its row does
    pub table_fits : (b : Bool) → b ≡ not (exceeds (length (add_row (f x) (rows n bytes))) most) → b ≡ not (exceeds (length (insert key unite x l)) most)
    table_fits b e = e ∙ ap (λ (k : ℕ). not (exceeds k most)) (ap length added ∙ length-map (insert key unite x l) f)

    -- the section holds it, or what it held where it is full
    pub table_added : (r : ℕ) (after : List ℕ) → Stored (unless_over most (add_row (f x) (rows n bytes)) (rows n bytes)) bytes r after → Tabled section (unless_over most (insert key unite x l) l) r after
    table_added r after s =
        let e : unless_over most (add_row (f x) (rows n bytes)) (rows n bytes) ≡ map f (unless_over most (insert key unite x l) l) = ap₂ (unless_over most) added table-rows ∙ unless_map f most (insert key unite x l) l in
        table-stored (unless_over most (insert key unite x l) l) r after (omega (arith, unless_least most (insert key unite x l) l (length-insert key unite x l).0)) (unless_most most (insert key unite x l) l (omega arith)) (rw e at s)

-- what a set of changes leaves when it ends, where a record is left just where its row is spared
pub table_left : {A : Type 0} (f : A → Row) (key : A → Key) (section : List A → List ℕ) (most : ℕ) → TableOf f key section most → (p : Set → A → Bool) → ((s : Set) (x : A) → spared s (f x) ≡ p s x)
    → (s : Set) (n : ℕ) (bytes : List ℕ) → n ≤ most → (r : ℕ) (after : List ℕ) → Closed (spared s) n bytes r after
    → (r ≤ n) × ((l : List A) → length l ≡ n → bytes ≡ section l → Tabled section (keep (p s) l) r after)
table_left f key section most t p h s n bytes few r after c =
    (closed-few (spared s) n bytes r after c, λ l len is. table-closed f key section most t l n bytes len is few (spared s) (p s) (h s) r after c)
