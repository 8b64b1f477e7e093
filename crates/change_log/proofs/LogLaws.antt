-- The log's section by its places: a record read, its owner replaced, a record appended. Assumes nothing.
use mathlib.Core.Path.{◌≡◌, refl, sym, ap, ◌∙◌}
use mathlib.Core.Logic.{◌≢◌}
use mathlib.Core.Bool.{Bool}
use mathlib.Core.List.{List, [], ◌∷◌, ◌++◌}
use Prim.Native.Nat.{ℕ, suc, ◌+◌, ◌*◌, ◌^◌, ◌<◌}
use native.Mathlib.Nat.{add-zero}
use native.Mathlib.Numerals.{towards_suc}
use native.Mathlib.Omega.{arith}
use lib.ListN.{length, get_or, set, length-set, get_or-append, get_or-eq_default}
use lib.Seq.{get_or_at, get_or-set_same, get_or-set_other}
use Rattle.rules.specs.Base.{table}
use Rattle.rules.specs.Window.{LogRecord}
use Rattle.rules.proofs.BaseLaws.{Below, under, over, below}
use Rattle.rules.proofs.ListLaws.{length-append-one}
use Rattle.layout.specs.Codec.{no_record, record_bytes, log_byte, log_section}
use Rattle.layout.proofs.LengthLaws.{length-log}
use Rattle.layout.proofs.RecordLaws.{placed}
use Rattle.cells.specs.Part.{part, patch}
use Rattle.cells.specs.Num.{le, num}
use Rattle.cells.proofs.PartLaws.{get_or_part, part-part, patch_cons}
use Rattle.cells.proofs.NumLaws.{num-le, le_bytes}
use Rattle.places.proofs.PlaceLaws.{place_read, cell_store, place_store}

-- the bytes of place i
abbrev place_bytes : List LogRecord → ℕ → List ℕ
place_bytes l i = record_bytes (get_or l i no_record)

-- the section by its places
log_places : (l : List LogRecord) → log_section l ≡ table 12288 0 (placed 6 (place_bytes l))
unfolding log_section log_byte placed
log_places l = refl

-- how long a record is
pub length_record : (r : LogRecord) → length (record_bytes r) ≡ 6
unfolding record_bytes
length_record r = refl

-- a record's bytes as they are stored
record_le : (r : LogRecord) → r.owner ∷ r.entry ∷ le 4 r.before ≡ record_bytes r
unfolding record_bytes table
record_le r = ap (λ (t : List ℕ). r.owner ∷ r.entry ∷ t) (le_bytes 4 r.before)

-- A RECORD READ from its six bytes
module _ (s : List ℕ) (i : ℕ) (q : LogRecord) (e : part s (i * 6) 6 ≡ record_bytes q) where
  -- byte j
  record_cell : (j : ℕ) → j < 6 → get_or s (i * 6 + j) 0 ≡ get_or (record_bytes q) j 0
  record_cell j t = sym (get_or_part s (i * 6) 6 j t) ∙ ap (λ (r : List ℕ). get_or r j 0) e

  -- its owner
  pub owner_here : get_or s (i * 6) 0 ≡ q.owner
  unfolding record_bytes
  owner_here = ap (λ (k : ℕ). get_or s k 0) (sym (add-zero (i * 6))) ∙ record_cell 0 (omega arith)

  -- its entry
  pub entry_here : get_or s (i * 6 + 1) 0 ≡ q.entry
  unfolding record_bytes
  entry_here = record_cell 1 (omega arith)

  -- its value before
  pub before_here : q.before < 2 ^ 32 → num (part s (i * 6 + 2) 4) ≡ q.before
  unfolding part le
  before_here t = ap num (sym (part-part s (i * 6) 6 2 4 (omega arith)) ∙ ap (λ (r : List ℕ). part r 2 4) (e ∙ sym (record_le q))) ∙ num-le 4 q.before t

-- A RECORD OF THE SECTION, and its owner stored
module _ (s : List ℕ) (l : List LogRecord) (i : ℕ) (e : s ≡ log_section l) (h : i < 2048) where
  -- its bytes
  record_part : part s (i * 6) 6 ≡ place_bytes l i
  record_part = ap (λ (r : List ℕ). part r (i * 6) 6) (e ∙ log_places l) ∙ place_read 6 2048 (place_bytes l) i h (length_record (get_or l i no_record))

  pub owner_read : get_or s (i * 6) 0 ≡ (get_or l i no_record).owner
  owner_read = owner_here s i (get_or l i no_record) record_part

  pub entry_read : get_or s (i * 6 + 1) 0 ≡ (get_or l i no_record).entry
  entry_read = entry_here s i (get_or l i no_record) record_part

  -- another owner
  pub owner_store : (o : ℕ) → i < length l → (x : LogRecord) → x ≡ record { owner = o; entry = (get_or l i no_record).entry; before = (get_or l i no_record).before }
      → set s (i * 6) o ≡ log_section (set l i x)
  unfolding record_bytes
  owner_store o t x q = ap (λ (k : ℕ). set s k o) (sym (add-zero (i * 6))) ∙ ap (λ (r : List ℕ). set r (i * 6 + 0) o) (e ∙ log_places l)
      ∙ cell_store 6 2048 (place_bytes l) (place_bytes (set l i x)) i 0 o h (omega arith) (length_record (get_or l i no_record))
      (record { here = ap record_bytes (get_or-set_same l i x no_record t ∙ q); there = λ j ne. ap record_bytes (get_or-set_other l i j x no_record ne) })
      ∙ sym (log_places (set l i x))

-- A RECORD APPENDED: the other places
append_there : (l : List LogRecord) (r : LogRecord) (j : ℕ) → j ≢ length l → get_or (l ++ (r ∷ [])) j no_record ≡ get_or l j no_record
append_there l r j ne = go (below j (length l))
  where
    go : {b : Bool} → Below j (length l) b → get_or (l ++ (r ∷ [])) j no_record ≡ get_or l j no_record
    go (under h) = get_or-append l (r ∷ []) no_record j h
    go (over h) = get_or-eq_default (l ++ (r ∷ [])) no_record {n = j} (omega (arith, length-append-one l r)) ∙ sym (get_or-eq_default l no_record h)

-- the stores of its bytes
pub record_append : (s : List ℕ) (l : List LogRecord) (n : ℕ) (r : LogRecord) → length l ≡ n → s ≡ log_section l → n < 2048
    → patch (set (set s (n * 6) r.owner) (n * 6 + 1) r.entry) (n * 6 + 2) (le 4 r.before) ≡ log_section (l ++ (r ∷ []))
record_append s l n r q e h =
    let long : length s ≡ 12288 = ap length e ∙ length-log l in
    let more : suc (n * 6) < length (set s (n * 6) r.owner) = rw length-set (omega arith) in
    simp towards_suc (patch_cons (set s (n * 6) r.owner) (suc (n * 6)) r.entry (le 4 r.before) more
    ∙ patch_cons s (n * 6) r.owner (r.entry ∷ le 4 r.before) (omega arith))
    ∙ ap (patch s (n * 6)) (record_le r)
    ∙ ap (λ (t : List ℕ). patch t (n * 6) (record_bytes r)) (e ∙ log_places l)
    ∙ place_store 6 2048 (omega arith) (place_bytes l) (place_bytes (l ++ (r ∷ []))) n (record_bytes r) h (length_record r)
    (record { here = ap record_bytes (get_or_at l r [] no_record n q); there = λ j ne. ap record_bytes (append_there l r j (λ d. ne (d ∙ q))) })
    ∙ sym (log_places (l ++ (r ∷ [])))
