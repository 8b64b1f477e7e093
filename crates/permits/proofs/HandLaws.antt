-- What a hand-over of permits comes to: the rows that move, those that stay, and the first added to the second. Assumes nothing.
use mathlib.Core.Path.{◌≡◌, refl, sym, ap, ap₂, ◌∙◌}
use mathlib.Core.Bool.{true}
use mathlib.Core.List.{List, map, foldr, map-map}
use Prim.Native.Nat.{ℕ, ◌+◌, ◌≤◌}
use native.Mathlib.Omega.{arith}
use lib.ListN.{length, length-map}
use Rattle.rules.specs.Base.{insert, keep, rising}
use Rattle.rules.specs.Sets.{Set}
use Rattle.rules.specs.Window.{PermitRecord, permit_key}
use Rattle.rules.specs.Locks.{unite_permits, add_permit}
use Rattle.rules.specs.Effects.{permit_given, permit_moves, permit_kept, moved_permit, move_permits}
use Rattle.rules.proofs.SortLaws.{rising-keep, length_inserts}
use Rattle.rules.proofs.SoundDelegate.{hand_parts, hand_room}
use Rattle.layout.specs.Codec.{permit_section}
use Rattle.layout.specs.Records.{Tabled}
use Rattle.rows.specs.Rows.{Row, row_key, rows, add_row, Stored, Closed}
use Rattle.rows.proofs.RowLaws.{length-rows}
use Rattle.rows.proofs.CloseLaws.{closed-rows}
use Rattle.rows.proofs.TableLaws.{keep-map, added_all-map, table-rows, table-rising, table-stored, table-closed}
use Rattle.permits.specs.PermitRows.{given_by, moves, stays, with_giver}
use Rattle.permits.proofs.PermitLaws.{permit_row, permit_table, permit_united}

-- the rows of moved permits are their rows with another giver
moved_rows : (to : ℕ) (ps : List PermitRecord) → map (with_giver to) (map permit_row ps) ≡ map permit_row (map (moved_permit to) ps)
unfolding with_giver permit_row moved_permit
moved_rows to ps = map-map (with_giver to) permit_row ps ∙ sym (map-map permit_row (moved_permit to) ps)

-- the rows that a hand-over leaves and takes away
pub record Parted (bytes : List ℕ) (n from to : ℕ) (on : Set) (moved : List ℕ) (m : ℕ) (rest : List ℕ) (left : ℕ) : Type 0 where
  -- those that move, out of a copy
  pub taken : Closed (moves from to on) n bytes m moved
  -- those that stay
  pub kept : Closed (stays from on) n bytes left rest

module _ (ps : List PermitRecord) (n : ℕ) (bytes : List ℕ) (len : length ps ≡ n) (is : bytes ≡ permit_section ps) (few : n ≤ 1024)
    (from to : ℕ) (on : Set) (moved : List ℕ) (m : ℕ) (rest : List ℕ) (left : ℕ) (p : Parted bytes n from to on moved m rest left) where
  -- the permits that stay are what is left
  here : Tabled permit_section (keep (permit_kept from on) ps) left rest
  unfolding stays given_by permit_row permit_given permit_kept
  here = table-closed permit_row permit_key permit_section 1024 permit_table ps n bytes len is few (stays from on) (permit_kept from on) (λ q. refl) left rest p.kept

  -- the permits that move are what was taken
  gone : rows m moved ≡ map permit_row (keep (permit_moves from to on) ps)
  unfolding moves given_by permit_row permit_given permit_moves
  gone = closed-rows (moves from to on) n bytes m moved p.taken
      ∙ ap (keep (moves from to on)) (table-rows permit_row permit_key permit_section 1024 permit_table ps n bytes len is few)
      ∙ keep-map permit_row (moves from to on) (permit_moves from to on) (λ q. refl) ps

  -- as many as were taken
  how_many : m ≡ length (keep (permit_moves from to on) ps)
  how_many = sym (length-rows m moved) ∙ ap length gone ∙ length-map (keep (permit_moves from to on) ps) permit_row

  -- together they are no more than the largest figure
  pub hand_fits : left + m ≤ 1024
  hand_fits = omega (arith, here.count, how_many, hand_parts from to on ps)

  -- what is left is in order
  pub hand_rising : rising permit_key ps ≡ true → rising row_key (rows left rest) ≡ true
  hand_rising r = table-rising permit_row permit_key permit_section 1024 permit_table (keep (permit_kept from on) ps) left rest (sym here.count) here.bytes (omega (arith, hand_fits)) (rising-keep permit_key (permit_kept from on) ps r)

  -- those that move, given by another, with those that stay: the rules' hand-over
  pub hand_over_lem : (r : ℕ) (after : List ℕ) → Stored (foldr add_row (rows left rest) (map (with_giver to) (rows m moved))) rest r after → Tabled permit_section (move_permits from to on ps) r after
  unfolding move_permits add_permit
  hand_over_lem r after s =
      table-stored permit_row permit_key permit_section 1024 permit_table (keep (permit_kept from on) ps) left rest (sym here.count) here.bytes (omega (arith, hand_fits))
      (foldr (insert permit_key unite_permits) (keep (permit_kept from on) ps) (map (moved_permit to) (keep (permit_moves from to on) ps))) r after
      (omega (arith, here.count, (length_inserts permit_key unite_permits (map (moved_permit to) (keep (permit_moves from to on) ps)) (keep (permit_kept from on) ps)).0))
      (omega (arith, hand_fits, here.count, how_many, hand_room from to on ps))
      (rw all at s)
    where
      all : foldr add_row (rows left rest) (map (with_giver to) (rows m moved)) ≡ map permit_row (foldr (insert permit_key unite_permits) (keep (permit_kept from on) ps) (map (moved_permit to) (keep (permit_moves from to on) ps)))
      all =
          ap₂ (λ (a b : List Row). foldr add_row a b)
          (table-rows permit_row permit_key permit_section 1024 permit_table (keep (permit_kept from on) ps) left rest (sym here.count) here.bytes (omega (arith, hand_fits)))
          (ap (map (with_giver to)) gone ∙ moved_rows to (keep (permit_moves from to on) ps))
          ∙ added_all-map permit_row permit_key permit_table.keyed unite_permits permit_united (map (moved_permit to) (keep (permit_moves from to on) ps)) (keep (permit_kept from on) ps)
