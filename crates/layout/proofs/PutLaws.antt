-- A section of a window's bytes put in the place of another, in the form in which a lent part comes back. Assumes nothing.
use mathlib.Core.Path.{◌≡◌, ◌∙◌, ap}
use mathlib.Core.List.{List, ◌++◌}
use Prim.Native.Nat.{ℕ, ◌<◌}
use native.Mathlib.Omega.{arith}
use lib.ListN.{length, take, drop}
use lib.Seq.{drop-drop}
use Rattle.rules.specs.Base.{table}
use Rattle.rules.specs.Window.{LogRecord, PermitRecord, TieRecord, LineRecord, Window, with_value, with_held, with_log, with_permits, with_ties, with_line}
use Rattle.layout.specs.Codec.{head_at, head_size, values_at, values_size, changes_at, changes_size, line_at, line_size, locks_at, locks_size, permits_at, permits_size, ties_at, ties_size, log_at, log_size, head_byte, value_byte, change_byte, line_byte, lock_byte, permit_byte, tie_byte, log_byte, head_section, value_section, change_section, line_section, lock_section, permit_section, tie_section, log_section, lay}
use Rattle.layout.proofs.SectionLaws.{Section, section, lay_out, sections, lay_sections, offset, nth, replaced, lay_out_put}

-- the bytes with others in the place of a part: the form in which the borrow checker hands a lent part back
abbrev pub laid_at : List ℕ → ℕ → ℕ → List ℕ → List ℕ
laid_at bs at size xs = take at bs ++ (xs ++ drop size (drop at bs))

put_back : (l : List Section) (k : ℕ) (g : ℕ → ℕ) → k < length l → laid_at (lay_out l) (offset l k) (nth l k).size (table (nth l k).size 0 g) ≡ lay_out (replaced l k g)
put_back l k g h = ap (λ r. take (offset l k) (lay_out l) ++ (table (nth l k).size 0 g ++ r)) (drop-drop (nth l k).size (offset l k) (lay_out l)) ∙ lay_out_put l k g h

-- a window with other statuses and parents
unfoldable pub with_changes : Window → (ℕ → ℕ) → (ℕ → ℕ) → Window
with_changes W s p = record { entries = W.entries; value = W.value; given = W.given; status = s; parent = p; held = W.held; log = W.log; permits = W.permits; ties = W.ties; line = W.line }

module _ (fs : List ℕ) (W : Window) where
  pub head_put : (gs : List ℕ) → laid_at (lay fs W) head_at head_size (head_section gs) ≡ lay gs W
  unfolding head_section sections section
  head_put gs = rw (lay_sections fs W, lay_sections gs W) (put_back (sections fs W) 0 (head_byte gs) (omega arith))

  pub values-put : (x : ℕ → ℕ) → laid_at (lay fs W) values_at values_size (value_section x) ≡ lay fs (with_value W x)
  unfolding value_section sections section with_value
  values-put x = rw (lay_sections fs W, lay_sections fs (with_value W x)) (put_back (sections fs W) 1 (value_byte x) (omega arith))

  pub changes-put : (s p : ℕ → ℕ) → laid_at (lay fs W) changes_at changes_size (change_section s p) ≡ lay fs (with_changes W s p)
  unfolding change_section sections section with_changes
  changes-put s p = rw (lay_sections fs W, lay_sections fs (with_changes W s p)) (put_back (sections fs W) 2 (change_byte s p) (omega arith))

  pub line-put : (x : List LineRecord) → laid_at (lay fs W) line_at line_size (line_section x) ≡ lay fs (with_line W x)
  unfolding line_section sections section with_line
  line-put x = rw (lay_sections fs W, lay_sections fs (with_line W x)) (put_back (sections fs W) 3 (line_byte x) (omega arith))

  pub locks-put : (x : ℕ → ℕ → ℕ) → laid_at (lay fs W) locks_at locks_size (lock_section x) ≡ lay fs (with_held W x)
  unfolding lock_section sections section with_held
  locks-put x = rw (lay_sections fs W, lay_sections fs (with_held W x)) (put_back (sections fs W) 4 (lock_byte x) (omega arith))

  pub permits-put : (x : List PermitRecord) → laid_at (lay fs W) permits_at permits_size (permit_section x) ≡ lay fs (with_permits W x)
  unfolding permit_section sections section with_permits
  permits-put x = rw (lay_sections fs W, lay_sections fs (with_permits W x)) (put_back (sections fs W) 5 (permit_byte x) (omega arith))

  pub ties-put : (x : List TieRecord) → laid_at (lay fs W) ties_at ties_size (tie_section x) ≡ lay fs (with_ties W x)
  unfolding tie_section sections section with_ties
  ties-put x = rw (lay_sections fs W, lay_sections fs (with_ties W x)) (put_back (sections fs W) 6 (tie_byte x) (omega arith))

  pub log-put : (x : List LogRecord) → laid_at (lay fs W) log_at log_size (log_section x) ≡ lay fs (with_log W x)
  unfolding log_section sections section with_log
  log-put x = rw (lay_sections fs W, lay_sections fs (with_log W x)) (put_back (sections fs W) 7 (log_byte x) (omega arith))
