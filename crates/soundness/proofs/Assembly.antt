-- The sections of sound bytes together are the bytes of a sound window, and back. Assumes nothing.
use mathlib.Core.Path.{◌≡◌, refl, sym, ◌∙◌, ap}
use mathlib.Core.Bool.{true, not, ◌&&◌}
use mathlib.Core.List.{List, [], ◌∷◌, ◌++◌}
use Prim.Native.Nat.{ℕ, suc}
use native.Mathlib.Omega.{arith}
use lib.ListN.{length}
use borrow.Author.Tests.{lt-ltb, ltb-true}
use Rattle.rules.specs.Base.{all}
use Rattle.rules.specs.Window.{limits, Window, live, lives, running}
use Rattle.rules.specs.Sound.{held_sound, tie_sound}
use Rattle.rules.specs.Locks.{clashes_permitted}
use Rattle.rules.specs.Ties.{acyclic}
use Rattle.rules.proofs.BaseLaws.{and_both, over_false, within_of}
use Rattle.rules.proofs.SoundParts.{Sound, ends_below_lem, held_most, held-no_change, held-nobody, fits_all, fit_locks}
use Rattle.layout.specs.Codec.{head_at, head_size, changes_at, changes_size, window_size, figures, head_section, lay, encode, decode}
use Rattle.layout.specs.Memory.{sound_bytes}
use Rattle.layout.specs.Records.{ends_below}
use Rattle.layout.proofs.SoundCodec.{entries_most, given_most}
use Rattle.layout.proofs.MemoryLaws.{encode-sound, bytes-sound, head_known as head_bytes, values_known, changes_known as changes-bytes, line_known, locks_known, permits_known, ties_known, log_known}
use Rattle.layout.proofs.PartLaws.{eight_parts}
use Rattle.cells.specs.Part.{part}
use Rattle.locks.specs.Held.{Modes}
use Rattle.sections.specs.Sections.{HeadSound, ChangesSound}
use Rattle.line_section.specs.Sections.{run_by}
use Rattle.parts.specs.Parts.{FrontSound, BackSound, Listed}

-- eight lists one after the other
join8 : {a b c d e f g h a' b' c' d' e' f' g' h' : List ℕ} → a ≡ a' → b ≡ b' → c ≡ c' → d ≡ d' → e ≡ e' → f ≡ f' → g ≡ g' → h ≡ h'
    → a ++ (b ++ (c ++ (d ++ (e ++ (f ++ (g ++ h)))))) ≡ a' ++ (b' ++ (c' ++ (d' ++ (e' ++ (f' ++ (g' ++ h'))))))
join8 p q r s t u v w = λ i. p i ++ (q i ++ (r i ++ (s i ++ (t i ++ (u i ++ (v i ++ w i))))))

-- FROM THE SECTIONS TO THE WINDOW
module _ (bs : List ℕ) (h : HeadSound (part bs head_at head_size)) (c : ChangesSound (part bs changes_at changes_size) h.given)
    (f : FrontSound bs h.entries h.waiters (lives h.given c.status) (run_by c.status))
    (k : BackSound bs h.entries h.permits h.ties h.records (lives h.given c.status) f.locks.held) where
  -- the window that they are
  unfoldable pub gathered : Window
  gathered = record {
    entries = h.entries;
    value = f.values.value;
    given = h.given;
    status = c.status;
    parent = c.parent;
    held = f.locks.held;
    log = k.log.log;
    permits = k.permits.permits;
    ties = k.ties.ties;
    line = f.line.line;
  }

  pub gathered_bytes : length bs ≡ window_size → encode gathered ≡ bs
  unfolding gathered encode lay figures part
  gathered_bytes size = sym (eight_parts bs size ∙ join8
      (h.bytes ∙ (λ i. head_section (h.entries ∷ h.given ∷ sym k.log.size i ∷ sym k.permits.size i ∷ sym k.ties.size i ∷ sym f.line.size i ∷ [])))
      f.values.bytes c.bytes f.line.bytes f.locks.bytes k.permits.bytes k.ties.bytes k.log.bytes)

  gathered_sound : acyclic (suc h.given) k.ties.ties ≡ true → clashes_permitted gathered ≡ true → Sound limits gathered
  unfolding gathered live running run_by limits
  gathered_sound a p = record {
    some = lt-ltb 0 h.entries (omega (arith, h.some));
    entries = ap not (over_false h.entries 256 h.entries_most);
    changes = ap not (over_false h.given 255 h.given_most);
    room_log = rw k.log.size (ap not (over_false h.records 2048 h.records_most));
    room_permits = rw k.permits.size (ap not (over_false h.permits 1024 h.permits_most));
    room_ties = rw k.ties.size (ap not (over_false h.ties 512 h.ties_most));
    values = f.values.fine;
    statuses = c.statuses;
    parents = c.parents;
    helds = f.locks.fine;
    records = k.log.fine;
    permits = k.permits.fine;
    ties = k.ties.fine;
    permit_order = k.permits.order;
    tie_order = k.ties.order;
    no_cycle_lem = a;
    locks = fits_all gathered f.locks.fine p;
    room_line = rw f.line.size (ap not (over_false h.waiters 255 h.waiters_most));
    line = f.line.fine;
    line-once = f.line.once;
  }

  pub gathered_all : length bs ≡ window_size → acyclic (suc h.given) k.ties.ties ≡ true → clashes_permitted gathered ≡ true → sound_bytes bs ≡ true
  gathered_all size a p = rw (gathered_bytes size) at (encode-sound gathered (gathered_sound a p))

  -- its locks, permits and ties, as the last two tests want them
  helds : (e n : ℕ) → held_sound gathered.entries (live gathered) gathered.held e n ≡ true
  unfolding gathered live
  helds = f.locks.fine

  fine-ties : all (tie_sound (live gathered)) gathered.ties ≡ true
  unfolding gathered live
  fine-ties = k.ties.fine

  pub gathered_listed : Listed bs h.entries h.permits h.ties gathered
  unfolding gathered ends_below Modes
  gathered_listed = record {
    held = record {
      lock_bytes = f.locks.bytes;
      permits_stored = k.permits.bytes;
      entry-count = refl;
      permit_count = k.permits.size;
      modes = held_most gathered helds;
      given = omega (arith, h.given_most);
      none_above = held-no_change gathered helds;
      nobody = held-nobody gathered helds (c.statuses 0);
      in_order = k.permits.order;
    };
    ties_stored = k.ties.bytes;
    tie_count = k.ties.size;
    ends = ends_below_lem gathered fine-ties;
  }

-- FROM THE WINDOW TO THE SECTIONS
module _ (bs : List ℕ) (s : sound_bytes bs ≡ true) where
  unfoldable pub W : Window
  W = decode bs

  pub z : Sound limits W
  unfolding W
  z = bytes-sound bs s

  unfoldable pub head_known : HeadSound (part bs head_at head_size)
  unfolding W figures limits part
  head_known = record {
    entries = W.entries;
    given = W.given;
    records = length W.log;
    permits = length W.permits;
    ties = length W.ties;
    waiters = length W.line;
    bytes = head_bytes bs s;
    some = ltb-true 0 W.entries z.some;
    entries_most = entries_most W z;
    given_most = given_most W z;
    records_most = within_of (length W.log) 2048 z.room_log;
    permits_most = within_of (length W.permits) 1024 z.room_permits;
    ties_most = within_of (length W.ties) 512 z.room_ties;
    waiters_most = within_of (length W.line) 255 z.room_line;
  }

  unfoldable pub changes_known : ChangesSound (part bs changes_at changes_size) W.given
  unfolding W part
  changes_known = record { status = W.status; parent = W.parent; bytes = changes-bytes bs s; statuses = z.statuses; parents = z.parents }

  unfoldable pub front_known : FrontSound bs W.entries (length W.line) (lives W.given W.status) (run_by W.status)
  unfolding W live running run_by part
  front_known = record {
    values = record { value = W.value; bytes = values_known bs s; fine = z.values };
    line = record { line = W.line; size = refl; bytes = line_known bs s; fine = z.line; once = z.line-once };
    locks = record { held = W.held; bytes = locks_known bs s; fine = z.helds };
  }

  pub back_known : BackSound bs W.entries (length W.permits) (length W.ties) (length W.log) (lives W.given W.status) W.held
  unfolding W live part
  back_known = record {
    permits = record { permits = W.permits; size = refl; bytes = permits_known bs s; fine = z.permits; order = z.permit_order };
    ties = record { ties = W.ties; size = refl; bytes = ties_known bs s; fine = z.ties; order = z.tie_order };
    log = record { log = W.log; size = refl; bytes = log_known bs s; fine = z.records };
  }

  pub listed_known : Listed bs W.entries (length W.permits) (length W.ties) W
  unfolding gathered head_known changes_known front_known back_known
  listed_known = gathered_listed bs head_known changes_known front_known back_known

  pub relations_known : acyclic (suc W.given) W.ties && clashes_permitted W ≡ true
  relations_known = and_both _ _ z.no_cycle_lem (fit_locks W z.locks)
