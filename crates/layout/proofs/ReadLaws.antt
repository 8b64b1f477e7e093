-- Permits, places in line and ties read from a section by their places; a tie that stands, by its place. Assumes nothing.
use mathlib.Core.Path.{◌≡◌, ◌∙◌, ap}
use mathlib.Core.Bool.{Bool, true, ◌&&◌}
use mathlib.Core.List.{List}
use Prim.Native.Nat.{ℕ, ◌+◌, ◌*◌, ◌≤◌, ◌<◌}
use native.Mathlib.Omega.{arith}
use lib.Dec.{eqb}
use lib.ListN.{length, get_or}
use Rattle.rules.specs.Window.{PermitRecord, TieRecord, LineRecord}
use Rattle.rules.specs.Ties.{tied}
use Rattle.rules.proofs.BaseLaws.{and_eqs, eqb_same}
use Rattle.rules.proofs.ListLaws.{any_at, any_place}
use Rattle.layout.specs.Codec.{no_permit, permit_bytes, permit_byte, permit_section, no_tie, tie_bytes, tie_byte, tie_section, no_waiter, waiter_bytes, line_byte, line_section}
use Rattle.layout.specs.Records.{permit_at, tie_at, waiter_at}
use Rattle.layout.proofs.LengthLaws.{length-ties}
use Rattle.layout.proofs.RecordLaws.{placed, place_at, permit_again, tie_again, waiter_again}
use Rattle.layout.proofs.SectionLaws.{Bytes}

-- PERMITS
-- each place of a section holds its permit
pub permit_read : (ps : List PermitRecord) (j : ℕ) → j < 1024 → permit_at (permit_section ps) j ≡ get_or ps j no_permit
unfolding permit_at permit_section permit_byte placed
permit_read ps j h = permit_again (λ i. get_or (permit_section ps) i 0) (get_or ps j no_permit) j (λ k l. place_at 4 permit_bytes no_permit 1024 ps j k h l)

-- THE LINE
-- each place of a section holds who waits there
pub waiter_read : (l : List LineRecord) (j : ℕ) → j < 256 → waiter_at (line_section l) j ≡ get_or l j no_waiter
unfolding waiter_at line_section line_byte placed
waiter_read l j h = waiter_again (λ i. get_or (line_section l) i 0) (get_or l j no_waiter) j (λ k t. place_at 4 waiter_bytes no_waiter 256 l j k h t)

-- TIES
-- the ties read from a section are those that it holds
tie_read : (ts : List TieRecord) (j : ℕ) → j < 512 → tie_at (tie_section ts) j ≡ get_or ts j no_tie
unfolding tie_at tie_section tie_byte placed
tie_read ts j h = tie_again (λ i. get_or (tie_section ts) i 0) (get_or ts j no_tie) j (λ k l. place_at 4 tie_bytes no_tie 512 ts j k h l)

-- of the first n ties of a section
pub section_read : (bs : List ℕ) (ts : List TieRecord) (n : ℕ) → 4 * n ≤ length bs → bs ≡ tie_section ts → (j : ℕ) → j < n → tie_at bs j ≡ get_or ts j no_tie
section_read bs ts n room e j h = ap (λ l. tie_at l j) e ∙ tie_read ts j (omega (arith, length-ties ts, ap length e))

-- their ends are bytes
pub section_ends : (bs : List ℕ) (ts : List TieRecord) (n : ℕ) → 4 * n ≤ length bs → bs ≡ tie_section ts → Bytes bs
    → (j : ℕ) → j < n → ((get_or ts j no_tie).leader < 256) × ((get_or ts j no_tie).follower < 256)
unfolding tie_at
section_ends bs ts n room e bytes j h = let q = section_read bs ts n room e j h in (rw (← q) (bytes (j * 4 + 1)), rw (← q) (bytes (j * 4 + 2)))

-- a tie of a kind that stands, by its place
pub record Stands (ts : List TieRecord) (kind : ℕ → Bool) (a b : ℕ) : Type 0 where
  pub place : ℕ
  pub below : place < length ts
  pub has : kind (get_or ts place no_tie).kind ≡ true
  pub leads : (get_or ts place no_tie).leader ≡ a
  pub follow : (get_or ts place no_tie).follower ≡ b

module _ (ts : List TieRecord) (kind : ℕ → Bool) where
  pub tied-place : (a b : ℕ) → tied ts kind a b ≡ true → Stands ts kind a b
  unfolding tied
  tied-place a b e = let m = any_place (λ t. kind t.kind && eqb t.leader a && eqb t.follower b) no_tie ts e in let t = get_or ts m.0 no_tie in
      let q = and_eqs (kind t.kind) t.leader a t.follower b m.2 in record { place = m.0; below = m.1; has = q.0; leads = q.1; follow = q.2 }

  -- a tie at a place ties its leader to its follower
  pub tied_at : (j : ℕ) → j < length ts → kind (get_or ts j no_tie).kind ≡ true → tied ts kind (get_or ts j no_tie).leader (get_or ts j no_tie).follower ≡ true
  unfolding tied
  tied_at j h e = any_at (λ t. kind t.kind && eqb t.leader (get_or ts j no_tie).leader && eqb t.follower (get_or ts j no_tie).follower) no_tie ts j h
      (rw (e, eqb_same (get_or ts j no_tie).leader, eqb_same (get_or ts j no_tie).follower))
