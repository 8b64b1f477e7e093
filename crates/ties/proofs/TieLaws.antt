-- Ties as rows, and what the calls on rows come to in ties. Assumes nothing.
use mathlib.Core.Path.{◌≡◌, refl, ap, ◌∙◌}
use mathlib.Core.Bool.{Bool, true, false, not, cond, ◌&&◌}
use mathlib.Core.List.{List, [], ◌∷◌, ◌++◌}
use Prim.Native.Nat.{ℕ, ◌-◌, ◌*◌, ◌≤◌, ◌<◌, min, max}
use native.Mathlib.Omega.{arith}
use lib.Dec.{ltb, eqb}
use lib.ListN.{length, replicate}
use borrow.Author.Tests.{ltb-true, ltb-false, eqb-true}
use Rattle.rules.specs.Base.{exceeds, rising}
use Rattle.rules.specs.Sets.{Set}
use Rattle.rules.specs.Window.{limits, TieRecord, tie_key}
use Rattle.rules.specs.Ties.{is_group, make_tie, add_tie}
use Rattle.rules.specs.Locks.{contains}
use Rattle.rules.specs.Effects.{tie_stays, ties_left}
use Rattle.rules.proofs.BaseLaws.{and_left, and_right}
use Rattle.layout.specs.Codec.{tie_bytes, tie_section}
use Rattle.layout.specs.Records.{Tabled}
use Rattle.layout.proofs.RecordLaws.{ties_flat}
use Rattle.rows.specs.Rows.{Row, row, with_key, row_key, row_bytes, rows, unite_rows, add_row, unless_over, spared, Stored, Closed}
use Rattle.rows.proofs.TableLaws.{TableOf, flat_rows, table-rising, table_fits, table_added, table_left}

-- a tie's row
unfoldable pub tie_row : TieRecord → Row
tie_row t = row t.kind t.leader t.follower 0

-- ties are a table of rows
tie_table : TableOf tie_row tie_key tie_section 512
unfolding tie_row tie_key tie_bytes row_bytes row_key
tie_table = record {
  flat = λ l h. ties_flat l h ∙ ap (λ (y : List ℕ). y ++ replicate ((512 - length l) * 4) 0) (flat_rows tie_row tie_bytes (λ t. refl) l);
  keyed = λ t. refl;
}

-- a tie that stands is not changed by a second
tie_united : (t u : TieRecord) → tie_row u ≡ unite_rows (tie_row t) (tie_row u)
unfolding tie_row unite_rows contains
tie_united t u = refl

-- the rows that are spared are those that the rules leave
pub ties_left_lem : (s : Set) (n : ℕ) (bytes : List ℕ) → n ≤ 512 → (r : ℕ) (after : List ℕ) → Closed (spared s) n bytes r after
    → (r ≤ n) × ((ts : List TieRecord) → length ts ≡ n → bytes ≡ tie_section ts → Tabled tie_section (ties_left s ts) r after)
unfolding ties_left tie_stays spared tie_row
ties_left_lem = table_left tie_row tie_key tie_section 512 tie_table tie_stays (λ s t. refl)

-- THE ENDS AS STORED
abbrev stored : Bool → ℕ → ℕ → ℕ → TieRecord
stored b k l f = cond b (record { kind = 3; leader = min l f; follower = max l f }) (record { kind = k; leader = l; follower = f })

module _ (k l f : ℕ) where
  -- the three bytes of the tie as it is stored
  abbrev pub made : List ℕ
  made = (make_tie k l f).kind ∷ (make_tie k l f).leader ∷ (make_tie k l f).follower ∷ []

  -- a group tie whose ends are not in order
  pub ends_swapped : eqb k 3 && ltb f l ≡ true → k ∷ f ∷ l ∷ [] ≡ made
  unfolding make_tie is_group
  ends_swapped e =
      let h : f < l = ltb-true f l (and_right (eqb k 3) (ltb f l) e) in
      let least : f ≡ min l f = omega arith in
      let most : l ≡ max l f = omega arith in
      rw (and_left (eqb k 3) (ltb f l) e) (λ i. eqb-true k 3 (and_left (eqb k 3) (ltb f l) e) i ∷ least i ∷ most i ∷ [])

  -- any other tie
  pub ends-kept : eqb k 3 && ltb f l ≡ false → k ∷ l ∷ f ∷ [] ≡ made
  unfolding make_tie is_group
  ends-kept e = go (eqb k 3) (eqb-true k 3) e
    where
      go : (b : Bool) → (b ≡ true → k ≡ 3) → b && ltb f l ≡ false → k ∷ l ∷ f ∷ [] ≡ (stored b k l f).kind ∷ (stored b k l f).leader ∷ (stored b k l f).follower ∷ []
      go true h q =
          let n : l ≤ f = ltb-false f l q in
          let least : l ≡ min l f = omega arith in
          let most : f ≡ max l f = omega arith in
          λ i. h refl i ∷ least i ∷ most i ∷ []
      go false h q = refl

  -- the row of the tie as it is stored
  pub key_row : (x : List ℕ) → x ≡ made → with_key x 0 ≡ tie_row (make_tie k l f)
  unfolding tie_row
  key_row x e = ap (λ (y : List ℕ). with_key y 0) e

-- THE CALLS, on `ts` whose section is `bytes`
module _ (ts : List TieRecord) (n : ℕ) (bytes : List ℕ) (len : length ts ≡ n) (is : bytes ≡ tie_section ts) (few : n ≤ 512) where
  -- its rows are in order where the ties are
  pub ties-rising : rising tie_key ts ≡ true → rising row_key (rows n bytes) ≡ true
  ties-rising = table-rising tie_row tie_key tie_section 512 tie_table ts n bytes len is few

  module _ (x : Row) (t : TieRecord) (e : x ≡ tie_row t) where
    -- a tie fits where its row does
    pub ties_fit : (b : Bool) → b ≡ not (exceeds (length (add_row x (rows n bytes))) 512) → b ≡ not (exceeds (length (add_tie t ts)) limits.ties)
    unfolding add_tie limits
    ties_fit b h =
        table_fits tie_row tie_key tie_section 512 tie_table ts n bytes len is few (λ p q. q) tie_united t b (rw e at h)

    -- a tie is added where its row is
    pub ties_added : (r : ℕ) (after : List ℕ) → Stored (unless_over 512 (add_row x (rows n bytes)) (rows n bytes)) bytes r after → Tabled tie_section (unless_over limits.ties (add_tie t ts) ts) r after
    unfolding add_tie limits
    ties_added r after s = table_added tie_row tie_key tie_section 512 tie_table ts n bytes len is few (λ p q. q) tie_united t r after (rw e at s)
