-- The changes of a set ended, step by step from the bytes of one window to those of the next; and their log records withdrawn. Assumes nothing.
use mathlib.Core.Path.{◌≡◌, refl, sym, ◌∙◌, ap}
use mathlib.Core.Bool.{true}
use mathlib.Core.List.{List}
use Prim.Native.Nat.{ℕ, ◌≤◌, ◌<◌, ◌^◌}
use native.Mathlib.Omega.{arith}
use lib.ListN.{length, get_or, take, drop}
use Rattle.rules.specs.Base.{keep}
use Rattle.rules.specs.Sets.{Set, put_all}
use Rattle.rules.specs.Window.{limits, LogRecord, Window, with_value, with_status, with_held, with_log, with_permits, with_ties, with_line}
use Rattle.rules.specs.Line.{line_left}
use Rattle.rules.specs.Effects.{released, is_unowned, unowned, permits_left, ties_left, end_all, undo, records_left, withdraw}
use Rattle.rules.proofs.ListLaws.{all_keep, length-keep, fewer}
use Rattle.rules.proofs.SoundParts.{Sound}
use Rattle.rules.proofs.SoundPlain.{log-sound, withdraw-sound}
use Rattle.rules.proofs.UndoLaws.{left_unowned}
use Rattle.layout.specs.Codec.{values_at, values_size, changes_at, changes_size, locks_at, locks_size, log_at, log_size, no_record, figures, value_section, change_section, lock_section, log_section, lay, decode, encode}
use Rattle.layout.specs.Memory.{sound_bytes}
use Rattle.layout.specs.Records.{Tabled}
use Rattle.layout.proofs.MemoryLaws.{bytes-sound, bytes_again, encode-sound, values_known, log_known}
use Rattle.layout.proofs.SoundCodec.{sound_canonical, sound_again}
use Rattle.layout.proofs.PutLaws.{laid_at}
use Rattle.layout.proofs.LentLaws.{head_laid, FigureStored, values_lent, log_lent, statuses_back, locks_back, figure_stored}
use Rattle.cells.specs.Part.{patch}
use Rattle.locks.specs.Held.{NoneFrom}
use Rattle.reads.proofs.ReadLaws.{none_from}

-- the last two steps: statuses and locks
abbrev with_ended : ℕ → Set → Window → Window
with_ended how m W = with_held (with_status W (put_all m how W.status)) (released m W.held)

pub statuses_and_locks : (W : Window) {bs : List ℕ} → bs ≡ encode W → (m : Set) (how entries : ℕ) {changes locks : List ℕ} → NoneFrom entries W.held
    → ((st pa : ℕ → ℕ) → take changes_size (drop changes_at bs) ≡ change_section st pa → changes ≡ change_section (put_all m how st) pa)
    → ((held : ℕ → ℕ → ℕ) → NoneFrom entries held → take locks_size (drop locks_at (laid_at bs changes_at changes_size changes)) ≡ lock_section held → locks ≡ lock_section (released m held))
    → laid_at (laid_at bs changes_at changes_size changes) locks_at locks_size locks ≡ encode (with_ended how m W)
unfolding with_status
statuses_and_locks W e m how entries n f g =
    locks_back (with_status W (put_all m how W.status)) (statuses_back W e (put_all m how W.status) (f W.status W.parent)) (released m W.held) (g W.held n)

-- all steps are the rules', but for the log
all-ended : (how : ℕ) (m : Set) (W : Window) → with_ended how m (with_line (with_ties (with_permits W (permits_left m W.permits)) (ties_left m W.ties)) (line_left m W.line)) ≡ with_log (end_all how m W) W.log
unfolding end_all with_held with_status with_line with_ties with_permits with_log
all-ended how m W = refl

pub rest_ended : (bs : List ℕ) → sound_bytes bs ≡ true → (m : Set) (how entries permits ties waiters : ℕ) {b1 b2 b3 b4 : List ℕ} → entries ≡ (decode bs).entries
    → permits ≡ length (decode bs).permits → ties ≡ length (decode bs).ties → waiters ≡ length (decode bs).line
    → ((W : Window) → permits ≡ length W.permits → bs ≡ encode W → b1 ≡ encode (with_permits W (permits_left m W.permits)))
    → ((W : Window) → ties ≡ length W.ties → b1 ≡ encode W → b2 ≡ encode (with_ties W (ties_left m W.ties)))
    → ((W : Window) → waiters ≡ length W.line → b2 ≡ encode W → b3 ≡ encode (with_line W (line_left m W.line)))
    → ((W : Window) → NoneFrom entries W.held → b3 ≡ encode W → b4 ≡ encode (with_ended how m W))
    → b4 ≡ encode (with_log (end_all how m (decode bs)) (decode bs).log)
unfolding with_permits with_ties with_line
rest_ended bs s m how entries permits ties waiters x y z w f g l h =
    h _ (none_from bs s entries x) (l _ w (g _ z (f (decode bs) y (sym (bytes_again bs s))))) ∙ ap encode (all-ended how m (decode bs))

-- and with the log: from the bytes of a sound window
module _ (how : ℕ) (m : Set) (X : Window) (k : Sound limits X) {mid out : List ℕ} (e : mid ≡ encode X) (r : out ≡ encode (with_log (end_all how m (decode mid)) (decode mid).log)) where
  rest_of : out ≡ encode (with_log (end_all how m X) X.log)
  rest_of = r ∙ ap (λ (Y : Window). encode (with_log (end_all how m Y) Y.log)) (ap decode e ∙ sound_again X k)

-- THE LOG FIRST: what is left of it, and the rest after it
pub unowned-few : (m : Set) (l : List LogRecord) → length (unowned m l) ≤ length l
unfolding unowned
unowned-few m l = length-keep (is_unowned m) l

module _ (bs : List ℕ) (s : sound_bytes bs ≡ true) where
  -- what is left of the log is counted in two bytes
  pub log-fits : (left : List LogRecord → List LogRecord) → ((l : List LogRecord) → length (left l) ≤ length l) → (count r : ℕ) {out : List ℕ} → count ≡ length (decode bs).log → count ≤ 2048
      → ((l : List LogRecord) → length l ≡ count → take log_size (drop log_at bs) ≡ log_section l → Tabled log_section (left l) r out) → r < 65536
  log-fits left few count r c h d = omega (arith, few (decode bs).log, (d (decode bs).log (sym c) (log_known bs s)).count)

  -- the window stays sound
  dropped_sound : (m : Set) → Sound limits (with_log (decode bs) (unowned m (decode bs).log))
  unfolding unowned
  dropped_sound m = let W = decode bs in let k = bytes-sound bs s in
      log-sound limits W (keep (is_unowned m) W.log) (all_keep _ (is_unowned m) _ (λ r h q. h) W.log k.records) (fewer (is_unowned m) W.log _ k.room_log) k

  pub dropped : (m : Set) {out : List ℕ} → out ≡ encode (with_log (decode bs) (unowned m (decode bs).log)) → sound_bytes out ≡ true
  dropped m q = rw q (encode-sound _ (dropped_sound m))

  -- the changes committed
  pub committed : (m : Set) {mid out : List ℕ} → mid ≡ encode (with_log (decode bs) (unowned m (decode bs).log)) → out ≡ encode (with_log (end_all 4 m (decode mid)) (decode mid).log) → out ≡ encode (end_all 4 m (decode bs))
  unfolding with_log end_all
  committed m e r = rest_of 4 m _ (dropped_sound m) e r

  -- and aborted
  pub aborted : (m : Set) {mid out : List ℕ} → mid ≡ encode (withdraw m (decode bs)) → out ≡ encode (with_log (end_all 5 m (decode mid)) (decode mid).log) → out ≡ encode (end_all 5 m (withdraw m (decode bs)))
  unfolding with_log end_all withdraw with_value
  aborted m e r = rest_of 5 m _ (withdraw-sound limits (decode bs) m (bytes-sound bs s)) e r ∙ ap (λ (l : List LogRecord). encode (with_log (end_all 5 m (withdraw m (decode bs))) l)) (sym (left_unowned m (decode bs).log))

-- THE LOG WITHDRAWN, with the values in a copy
module _ (bs : List ℕ) (copy : List ℕ) (c : copy ≡ take values_size (drop values_at bs)) where
  pub withdrawn : sound_bytes bs ≡ true → (m : Set) (count left : ℕ) {values log mid head : List ℕ} → count ≡ length (decode bs).log
      → ((v : ℕ → ℕ) (l : List LogRecord) → length l ≡ count → ((k : ℕ) → (get_or l k no_record).before < 2 ^ 32) → copy ≡ value_section v → take log_size (drop log_at bs) ≡ log_section l → values ≡ value_section (undo m l v))
      → ((l : List LogRecord) → length l ≡ count → take log_size (drop log_at bs) ≡ log_section l → Tabled log_section (records_left m l) left log)
      → mid ≡ laid_at (laid_at bs log_at log_size log) values_at values_size values → FigureStored mid 2 left head
      → (head_laid mid head ≡ encode (withdraw m (decode bs))) × (sound_bytes (head_laid mid head) ≡ true)
  unfolding patch value_section figures withdraw with_value with_log lay encode
  withdrawn s m count left {values} {log} {mid} {head} n f g h k = (q, rw q (encode-sound _ (withdraw-sound limits W m (bytes-sound bs s))))
    where
      W : Window
      W = decode bs

      v : ℕ → ℕ
      v = undo m W.log W.value

      is : values ≡ value_section v
      is = f W.value W.log (sym n) (sound_canonical W (bytes-sound bs s)).before_most (c ∙ values_known bs s) (log_known bs s)

      left_is : Tabled log_section (records_left m W.log) left log
      left_is = g W.log (sym n) (log_known bs s)

      laid : mid ≡ lay (figures W) (withdraw m W)
      laid = h ∙ values_lent (figures W) (with_log W (records_left m W.log)) (log_lent (figures W) W (sym (bytes_again bs s)) (records_left m W.log) (λ _. left_is.bytes)) v (λ _. is)

      q : head_laid mid head ≡ encode (withdraw m W)
      q = figure_stored W (withdraw m W) laid 2 left (omega arith) k (rw left_is.count)
