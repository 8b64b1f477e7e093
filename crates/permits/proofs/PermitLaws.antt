-- Permits as rows, and what the calls on rows come to in permits. Assumes nothing.
use mathlib.Core.Path.{◌≡◌, refl, ap, ◌∙◌}
use mathlib.Core.Bool.{Bool, true, not}
use mathlib.Core.List.{List, ◌++◌}
use Prim.Native.Nat.{ℕ, ◌-◌, ◌*◌, ◌≤◌}
use lib.ListN.{length, replicate}
use Rattle.rules.specs.Base.{exceeds, rising}
use Rattle.rules.specs.Sets.{Set}
use Rattle.rules.specs.Window.{limits, PermitRecord, permit_key}
use Rattle.rules.specs.Locks.{make_permit, unite_permits, add_permit}
use Rattle.rules.specs.Effects.{permit_stays, permits_left}
use Rattle.layout.specs.Codec.{permit_bytes, permit_section}
use Rattle.layout.specs.Records.{Tabled}
use Rattle.layout.proofs.RecordLaws.{permits_flat}
use Rattle.rows.specs.Rows.{Row, row, row_key, row_bytes, rows, unite_rows, add_row, unless_over, spared, Stored, Closed}
use Rattle.rows.proofs.TableLaws.{TableOf, flat_rows, table-rising, table_fits, table_added, table_left}

-- a permit's row
unfoldable pub permit_row : PermitRecord → Row
permit_row p = row p.entry p.giver p.taker p.ops

-- permits are a table of rows
pub permit_table : TableOf permit_row permit_key permit_section 1024
unfolding permit_row permit_key permit_bytes row_bytes row_key
permit_table = record {
  flat = λ l h. permits_flat l h ∙ ap (λ (y : List ℕ). y ++ replicate ((1024 - length l) * 4) 0) (flat_rows permit_row permit_bytes (λ t. refl) l);
  keyed = λ t. refl;
}

-- permits are united as their rows are
pub permit_united : (p q : PermitRecord) → permit_row (unite_permits p q) ≡ unite_rows (permit_row p) (permit_row q)
unfolding permit_row unite_permits unite_rows
permit_united p q = refl

-- the rows that are spared are those that the rules leave
pub permits_left_lem : (s : Set) (n : ℕ) (bytes : List ℕ) → n ≤ 1024 → (r : ℕ) (after : List ℕ) → Closed (spared s) n bytes r after
    → (r ≤ n) × ((ps : List PermitRecord) → length ps ≡ n → bytes ≡ permit_section ps → Tabled permit_section (permits_left s ps) r after)
unfolding permits_left permit_stays spared permit_row
permits_left_lem = table_left permit_row permit_key permit_section 1024 permit_table permit_stays (λ s p. refl)

-- THE CALLS, on `ps` whose section is `bytes`
module _ (ps : List PermitRecord) (n : ℕ) (bytes : List ℕ) (len : length ps ≡ n) (is : bytes ≡ permit_section ps) (few : n ≤ 1024) where
  pub permits-rising : rising permit_key ps ≡ true → rising row_key (rows n bytes) ≡ true
  permits-rising = table-rising permit_row permit_key permit_section 1024 permit_table ps n bytes len is few

  module _ (g t e o : ℕ) where
    -- a permit fits where its row does
    pub permits_fit : (b : Bool) → b ≡ not (exceeds (length (add_row (row e g t o) (rows n bytes))) 1024) → b ≡ not (exceeds (length (add_permit (make_permit g t e o) ps)) limits.permits)
    unfolding add_permit make_permit permit_row limits
    permits_fit b h = table_fits permit_row permit_key permit_section 1024 permit_table ps n bytes len is few unite_permits permit_united (make_permit g t e o) b h

    -- a permit is added where its row is
    pub permits_added : (r : ℕ) (after : List ℕ) → Stored (unless_over 1024 (add_row (row e g t o) (rows n bytes)) (rows n bytes)) bytes r after
        → Tabled permit_section (unless_over limits.permits (add_permit (make_permit g t e o) ps) ps) r after
    unfolding add_permit make_permit permit_row limits
    permits_added r after s = table_added permit_row permit_key permit_section 1024 permit_table ps n bytes len is few unite_permits permit_united (make_permit g t e o) r after s
