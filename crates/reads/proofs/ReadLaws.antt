-- What is known of the window of sound bytes: numbers that fit, locks in their range, figures as they are read; a number that is read, against another. Assumes nothing.
use mathlib.Core.Path.{◌≡◌, sym, ◌∙◌}
use mathlib.Core.Logic.{◌≢◌}
use mathlib.Core.Bool.{Bool, true, false, not, ◌&&◌}
use mathlib.Core.List.{List}
use Prim.Native.Nat.{ℕ, ◌≤◌, ◌<◌}
use native.Mathlib.Omega.{arith}
use lib.Dec.{leb, eqb, leb-suc-suc}
use lib.ListN.{length, get_or, take, drop}
use borrow.Author.Tests.{eq-eqb, ne_eqb, leb-false}
use Rattle.rules.specs.Base.{outside}
use Rattle.rules.specs.Window.{limits, Window, no_change, no_entry, live}
use Rattle.rules.proofs.SoundParts.{Sound, held-no_entry, numbered}
use Rattle.layout.specs.Codec.{head_at, head_size, figures, head_section, decode}
use Rattle.layout.specs.Memory.{sound_bytes}
use Rattle.layout.proofs.CodecLaws.{Canonical}
use Rattle.layout.proofs.SoundCodec.{entries_most, given_most, sound_canonical}
use Rattle.layout.proofs.MemoryLaws.{bytes-sound, head_known}
use Rattle.locks.specs.Held.{Modes, NoneFrom}

-- the numbers of changes and entries that there are
module _ (W : Window) (k : Sound limits W) where
  pub change_fits_lem : (c : ℕ) → no_change W c ≡ false → c < 256
  change_fits_lem c h = omega (arith, given_most W k, numbered W c h)

  pub entry_fits_lem : (e : ℕ) → no_entry W e ≡ false → e < 256
  unfolding no_entry
  entry_fits_lem e h = omega (arith, leb-false W.entries e h, entries_most W k)

-- r is figure k, whatever figures the header's bytes have, where it fits
abbrev FigureRead : List ℕ → ℕ → ℕ → Type 0
FigureRead bs k r = (fs : List ℕ) → take head_size (drop head_at bs) ≡ head_section fs → get_or fs k 0 < 65536 → r ≡ get_or fs k 0

-- the window of sound bytes
module _ (bs : List ℕ) (s : sound_bytes bs ≡ true) where
  known : Canonical (decode bs)
  known = sound_canonical (decode bs) (bytes-sound bs s)

  pub modes_known : Modes (decode bs).held
  unfolding Modes
  modes_known = known.held_most

  -- there is no lock on an entry that there is not
  pub none_from : (entries : ℕ) → entries ≡ (decode bs).entries → NoneFrom entries (decode bs).held
  unfolding NoneFrom
  none_from entries q e c h = held-no_entry (decode bs) (bytes-sound bs s).helds e c (omega arith)

  -- a figure that is read, and its bound
  figure_read : (k most : ℕ) → get_or (figures (decode bs)) k 0 ≤ most → most < 65536
      → (r : ℕ) → FigureRead bs k r → (r ≡ get_or (figures (decode bs)) k 0) × (r ≤ most)
  figure_read k most h l r f = let e = f (figures (decode bs)) (head_known bs s) (omega arith) in (e, omega arith)

  pub entries_read : (r : ℕ) → FigureRead bs 0 r → (r ≡ (decode bs).entries) × (r ≤ 256)
  unfolding figures
  entries_read = figure_read 0 256 known.entries_most (omega arith)

  pub given_read : (r : ℕ) → FigureRead bs 1 r → (r ≡ (decode bs).given) × (r ≤ 255)
  unfolding figures
  given_read = figure_read 1 255 known.given_most (omega arith)

  pub records_read : (r : ℕ) → FigureRead bs 2 r → (r ≡ length (decode bs).log) × (r ≤ 2048)
  unfolding figures
  records_read = figure_read 2 2048 known.log_most (omega arith)

  pub permits_read : (r : ℕ) → FigureRead bs 3 r → (r ≡ length (decode bs).permits) × (r ≤ 1024)
  unfolding figures
  permits_read = figure_read 3 1024 known.permits_most (omega arith)

  pub ties_read : (r : ℕ) → FigureRead bs 4 r → (r ≡ length (decode bs).ties) × (r ≤ 512)
  unfolding figures
  ties_read = figure_read 4 512 known.ties_most (omega arith)

  pub waiters_read : (r : ℕ) → FigureRead bs 5 r → (r ≡ length (decode bs).line) × (r ≤ 255)
  unfolding figures
  waiters_read = figure_read 5 255 known.line_most (omega arith)

-- a number x that is read, against another
module _ {x y : ℕ} (e : x ≡ y) (n : ℕ) where
  pub reads_same : x ≡ n → eqb y n ≡ true
  reads_same h = eq-eqb y n (sym e ∙ h)

  pub reads_other : x ≢ n → eqb y n ≡ false
  reads_other h = ne_eqb y n (λ q. h (e ∙ q))

-- whether a change is live, by what is read of it
pub live_read : (W : Window) (c n s : ℕ) (b : Bool) → n ≡ W.given → s ≡ W.status c → b ≡ outside 1 3 s → leb c n && not b ≡ live W c
unfolding live
live_read W c n s b e q h = rw (h, q, e, leb-suc-suc c W.given)
