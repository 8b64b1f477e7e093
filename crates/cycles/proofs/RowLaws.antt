-- Ties in rows of four bytes: a section's ties by row, and whether one of them is an arrow. Assumes nothing.
use Rattle.std.proofs.Common.{◌≡◌, refl, sym, ◌∙◌, ℕ, ◌+◌, ◌*◌, ◌/◌, ◌≤◌, ◌<◌, Bool, true, false, List, [], length, get_or, take, arith}
use mathlib.Core.Bool.{false≢true}
use lib.ListN.{get_or-eq_default}
use Rattle.std.specs.Bool.{MatchBool}
use Rattle.std.specs.List.{AllWithin, HoldsAt}
use Rattle.std.specs.Simd.{first_chunks}
use Rattle.rules.specs.Base.{any_below}
use Rattle.rules.specs.Window.{TieRecord}
use Rattle.rules.specs.Ties.{is_arrow}
use Rattle.rules.proofs.BaseLaws.{any_intro, any_elim, no_true, Below, under, over, below}
use Rattle.layout.specs.Codec.{no_tie, tie_section}
use Rattle.layout.specs.Records.{tie_at}
use Rattle.layout.proofs.ReadLaws.{section_read}
use Rattle.layout.proofs.SectionLaws.{Bytes}
use Rattle.places.proofs.RowLaws.{rows-count, row_byte}
use Rattle.cycles.specs.Graph.{tie_in_rows, arrow_in}

-- ties of a list, by rows
pub record TieRows (ts : List TieRecord) (m : ℕ) (rows : List (List ℕ)) : Type 0 where
  pub count : length rows ≡ m
  pub ties : (j : ℕ) → j < length rows → tie_in_rows rows j ≡ get_or ts j no_tie
  pub leaders : (j : ℕ) → (tie_in_rows rows j).leader < 256
  pub followers : (j : ℕ) → (tie_in_rows rows j).follower < 256

-- THE ROWS OF A SECTION'S FIRST m TIES
module _ (bs : List ℕ) (m : ℕ) (rows : List (List ℕ)) (room : 4 * m ≤ length bs) (cut : rows ≡ first_chunks 4 (length (take (m * 4) bs) / 4) (take (m * 4) bs)) where
  -- each holds its tie
  pub tie_is : (j : ℕ) → j < length rows → tie_in_rows rows j ≡ tie_at bs j
  unfolding tie_in_rows tie_at
  tie_is j h = λ i. record {
    kind = row_byte m bs rows room cut j 0 (j * 4) [] h (omega arith) (omega arith) i;
    leader = row_byte m bs rows room cut j 1 (j * 4 + 1) [] h (omega arith) refl i;
    follower = row_byte m bs rows room cut j 2 (j * 4 + 2) [] h (omega arith) refl i;
  }

  -- in bytes
  row_small : Bytes bs → (j i : ℕ) → i < 4 → get_or (get_or rows j []) i 0 < 256
  row_small bytes j i q = go (below j (length rows))
    where
      go : {b : Bool} → Below j (length rows) b → get_or (get_or rows j []) i 0 < 256
      go (under h) = rw (row_byte m bs rows room cut j i (j * 4 + i) [] h q refl) (bytes _)
      go (over h) = rw (get_or-eq_default rows [] {n = j} (omega arith)) (omega arith)

  -- so they are the ties of a list that the section is the bytes of
  pub tie_rows : (ts : List TieRecord) → Bytes bs → bs ≡ tie_section ts → TieRows ts m rows
  unfolding tie_in_rows
  tie_rows ts bytes is = record {
    count = rows-count m bs rows room cut;
    ties = λ j h. tie_is j h ∙ section_read bs ts m room is j (rw (rows-count m bs rows room cut) at h);
    leaders = λ j. row_small bytes j 1 (omega arith);
    followers = λ j. row_small bytes j 2 (omega arith);
  }

-- what a search by rows answers
pub any_row : (r : Bool) (rows : List (List ℕ)) → MatchBool r ((k : ℕ) × (k < length rows) × HoldsAt (λ row. is_arrow (get_or row 0 0) ≡ true) rows k) (AllWithin (λ row. is_arrow (get_or row 0 0) ≡ false) rows 0 (length rows))
    → r ≡ any_below (length rows) (arrow_in (tie_in_rows rows))
unfolding arrow_in tie_in_rows
any_row true rows h = sym (any_intro (length rows) (arrow_in (tie_in_rows rows)) h.0 h.1 (h.2 []))
any_row false rows h = sym (no_true (any_below (length rows) (arrow_in (tie_in_rows rows))) (λ e. let w = any_elim (length rows) (arrow_in (tie_in_rows rows)) e in false≢true (sym (h w.0 [] (omega arith) w.1) ∙ w.2)))
