-- The log closed up when changes have ended: one record moved, one turn of the loop, and its end. Assumes nothing.
use mathlib.Core.Path.{◌≡◌, refl, sym, ap, ◌∙◌}
use mathlib.Core.Bool.{Bool, true, false, cond}
use mathlib.Core.List.{List, [], ◌∷◌, ◌++◌, flat_map}
use Prim.Native.Nat.{ℕ, ◌+◌, ◌-◌, ◌*◌, ◌≤◌, ◌<◌}
use native.Mathlib.Omega.{arith}
use lib.ListN.{length, get_or, replicate, replicate-append-replicate}
use Rattle.rules.specs.Window.{LogRecord}
use Rattle.layout.specs.Codec.{no_record, record_bytes, log_section}
use Rattle.layout.specs.Records.{Tabled}
use Rattle.layout.proofs.RecordLaws.{log_flat}
use Rattle.cells.specs.Part.{part, patch}
use Rattle.cells.proofs.CloseLaws.{Closing, closing_none, closing_here, closing_turn, closing_all}
use Rattle.change_log.proofs.LogLaws.{length_record}

-- THE LOOP: the zeros behind the records
abbrev pub unused : List LogRecord → List ℕ
unused l = replicate ((2048 - length l) * 6) 0

-- i records of l were read, and j are left, those of k
abbrev pub ClosingLog : List LogRecord → List ℕ → ℕ → ℕ → List LogRecord → Type 0
ClosingLog l log i j k = Closing 6 record_bytes l (unused l) log i j k

-- before the first turn
pub log_none : (l : List LogRecord) (log : List ℕ) → length l ≤ 2048 → log ≡ log_section l → ClosingLog l log 0 0 []
log_none l log h e = closing_none 6 record_bytes l (unused l) log (e ∙ log_flat l h)

module _ (l : List LogRecord) (log : List ℕ) (i j : ℕ) (k : List LogRecord) (m : ClosingLog l log i j k) (h : i < length l) where
  -- the bytes of the next record
  pub log-here : part log (i * 6) 6 ≡ record_bytes (get_or l i no_record)
  log-here = closing_here 6 record_bytes length_record no_record l (unused l) log i j k m h (i * 6) refl

  -- it is left, or not
  pub log_turn : (b : Bool) (k' : List LogRecord) → k' ≡ k ++ cond b (get_or l i no_record ∷ []) [] → (r : ℕ) (out : List ℕ) → i * 6 + 6 ≤ length log
      → r ≡ cond b (j + 1) j → out ≡ cond b (patch log (j * 6) (part log (i * 6) 6)) log → ClosingLog l out (i + 1) r k'
  log_turn b k' e r out room er eo = rw (er, eo) (closing_turn 6 record_bytes length_record no_record l (unused l) log i j k m h b k' e (i * 6) (j * 6) refl refl room)

-- records and zeros are the section
cleared : (l : List LogRecord) (x y : ℕ) → length l ≤ 2048 → x + y ≡ (2048 - length l) * 6 → flat_map record_bytes l ++ (replicate x 0 ++ replicate y 0) ≡ log_section l
cleared l x y h e =
    ap (λ (t : List ℕ). flat_map record_bytes l ++ t) (replicate-append-replicate x y 0 ∙ ap (λ (z : ℕ). replicate z 0) e) ∙ sym (log_flat l h)

-- no more are left than were read
pub left_most : (b : Bool) (i j r : ℕ) → j ≤ i → r ≡ cond b (j + 1) j → r ≤ i + 1
left_most true i j r h e = omega arith
left_most false i j r h e = omega arith

-- all were read, and the rest is cleared
pub log-all : (l : List LogRecord) (log : List ℕ) (n j : ℕ) (k : List LogRecord) (out : List ℕ) → length l ≡ n → n ≤ 2048 → ClosingLog l log n j k
    → out ≡ patch log (j * 6) (replicate (n * 6 - j * 6) 0) → Tabled log_section k j out
log-all l log n j k out e h m o = record {
  count = m.count;
  bytes = o ∙ closing_all 6 record_bytes l (unused l) log n j k e m (j * 6) (n * 6) refl refl
      ∙ cleared k (n * 6 - j * 6) ((2048 - length l) * 6) (omega (arith, m.count, m.few)) (omega (arith, m.count, m.few));
}

-- RECORDS CLOSED UP: those of k, of n that there were
pub closed_up : (k l : List LogRecord) (n r : ℕ) (out : List ℕ) → length l ≡ n → n ≤ 2048 → r ≤ n → r ≡ length k
    → out ≡ flat_map record_bytes k ++ (replicate (n * 6 - r * 6) 0 ++ unused l) → Tabled log_section k r out
closed_up k l n r out e h few count o = record { count = count; bytes = o ∙ cleared k (n * 6 - r * 6) ((2048 - length l) * 6) (omega arith) (omega arith) }
