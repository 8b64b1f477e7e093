-- The effect of write, permit and depend on the bytes of a sound window, from what the tables' functions leave of their sections. Assumes nothing.
use mathlib.Core.Path.{◌≡◌, refl, sym, ◌∙◌}
use mathlib.Core.Bool.{true, false}
use mathlib.Core.List.{List, [], ◌∷◌}
use Prim.Native.Nat.{ℕ, ◌+◌}
use lib.ListN.{length, take, drop, length-append}
use Rattle.rules.specs.Base.{put, exceeds, rising}
use Rattle.rules.specs.Window.{limits, LogRecord, PermitRecord, TieRecord, Window, with_value, with_log, with_permits, with_ties, permit_key, tie_key}
use Rattle.rules.specs.Locks.{make_permit, add_permit}
use Rattle.rules.specs.Ties.{make_tie, add_tie}
use Rattle.rules.specs.Calls.{Write}
use Rattle.rules.specs.Effects.{effect, write_entry, add_record}
use Rattle.layout.specs.Codec.{values_at, values_size, permits_at, permits_size, ties_at, ties_size, log_at, log_size, value_section, permit_section, tie_section, log_section, decode, encode}
use Rattle.layout.specs.Memory.{sound_bytes}
use Rattle.layout.specs.Records.{Tabled}
use Rattle.layout.proofs.MemoryLaws.{bytes-sound, bytes_again}
use Rattle.layout.proofs.PutLaws.{laid_at}
use Rattle.layout.proofs.LentLaws.{head_laid, FigureStored, values_back, log_back, permits_back, ties_back}
use Rattle.rows.specs.Rows.{unless_over}
use Rattle.replies.specs.declared.Reply.{Reply}
use Rattle.replies.specs.Gives.{Gives, written}
use Rattle.replies.proofs.GiveLaws.{given-done}

-- a window with one record more in its log
abbrev with_record : Window → ℕ → ℕ → ℕ → Window
with_record W c e before = with_log W (add_record c e before W.log)

module _ (bs : List ℕ) (s : sound_bytes bs ≡ true) where
  pub record_logged : (c e before m : ℕ) → m ≡ length (decode bs).log → (o1 o2 : List ℕ)
      → ((l : List LogRecord) → length l ≡ m → take log_size (drop log_at bs) ≡ log_section l → o1 ≡ log_section (add_record c e before l))
      → FigureStored (laid_at bs log_at log_size o1) 2 (m + 1) o2 → head_laid (laid_at bs log_at log_size o1) o2 ≡ encode (with_record (decode bs) c e before)
  unfolding add_record
  record_logged c e before m u o1 o2 f = let l = (decode bs).log in
      log_back (decode bs) (sym (bytes_again bs s)) (λ q. record { count = rw (u, length-append l (record { owner = c; entry = e; before = before } ∷ [])); bytes = f l (sym u) q })

  -- a record entered in a table that has room for it
  pub permit_entered : (g t e o m n : ℕ) → exceeds (length (add_permit (make_permit g t e o) (decode bs).permits)) limits.permits ≡ false → m ≡ length (decode bs).permits → (o1 o2 : List ℕ)
      → ((ps : List PermitRecord) → length ps ≡ m → take permits_size (drop permits_at bs) ≡ permit_section ps → rising permit_key ps ≡ true → Tabled permit_section (unless_over limits.permits (add_permit (make_permit g t e o) ps) ps) n o1)
      → FigureStored (laid_at bs permits_at permits_size o1) 3 n o2
      → head_laid (laid_at bs permits_at permits_size o1) o2 ≡ encode (with_permits (decode bs) (add_permit (make_permit g t e o) (decode bs).permits))
  unfolding unless_over
  permit_entered g t e o m n room u o1 o2 f = permits_back (decode bs) (sym (bytes_again bs s)) (λ q. rw room at (f (decode bs).permits (sym u) q (bytes-sound bs s).permit_order))

  pub tie_entered : (k l f m n : ℕ) → exceeds (length (add_tie (make_tie k l f) (decode bs).ties)) limits.ties ≡ false → m ≡ length (decode bs).ties → (o1 o2 : List ℕ)
      → ((ts : List TieRecord) → length ts ≡ m → take ties_size (drop ties_at bs) ≡ tie_section ts → rising tie_key ts ≡ true → Tabled tie_section (unless_over limits.ties (add_tie (make_tie k l f) ts) ts) n o1)
      → FigureStored (laid_at bs ties_at ties_size o1) 4 n o2
      → head_laid (laid_at bs ties_at ties_size o1) o2 ≡ encode (with_ties (decode bs) (add_tie (make_tie k l f) (decode bs).ties))
  unfolding unless_over
  tie_entered k l f m n room u o1 o2 g = ties_back (decode bs) (sym (bytes_again bs s)) (λ q. rw room at (g (decode bs).ties (sym u) q (bytes-sound bs s).tie_order))

-- a write, from the bytes of the window with its record entered
pub write_given : (W : Window) (r : Reply) {bs : List ℕ} (c e v before : ℕ) → before ≡ W.value e → bs ≡ encode (with_record W c e before) → (out : List ℕ)
    → ((x : ℕ → ℕ) → take values_size (drop values_at bs) ≡ value_section x → out ≡ value_section (put x e v))
    → (r.answer ≡ 0) × (r.number ≡ 0) → Gives (written (effect W (Write c e v))) r (laid_at bs values_at values_size out)
unfolding effect with_log with_value write_entry
write_given W r c e v before q b out g a = given-done 0 (write_entry W c e v) r _ a (values_back (with_record W c e before) b _ (g W.value) ∙ rw q refl)
