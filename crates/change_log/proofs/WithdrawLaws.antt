-- Records withdrawn, from the oldest on: one turn of the loop, and one record. Assumes nothing.
use mathlib.Core.Path.{◌≡◌, refl, sym, ap, ◌∙◌, fun_ext}
use mathlib.Core.Bool.{Bool, true, false, not, cond, ◌&&◌, ◌||◌, and-false, or-false, or_comm}
use mathlib.Core.List.{List, [], ◌∷◌, ◌++◌}
use Prim.Native.Nat.{ℕ, ◌+◌, ◌-◌, ◌*◌, ◌^◌, ◌≤◌, ◌<◌}
use native.Mathlib.Omega.{arith}
use lib.Dec.{eqb}
use lib.ListN.{length, take, get_or, replicate}
use lib.Seq.{take_all}
use Rattle.rules.specs.Base.{put, any}
use Rattle.rules.specs.Sets.{Set}
use Rattle.rules.specs.Window.{LogRecord}
use Rattle.rules.specs.Effects.{owned_on, undo, records_left}
use Rattle.rules.proofs.BaseLaws.{Same, same, other, same?}
use Rattle.rules.proofs.ListLaws.{any_join}
use Rattle.rules.proofs.UndoLaws.{undo-more, left_more}
use Rattle.layout.specs.Records.{Tabled}
use Rattle.layout.specs.Codec.{no_record, record_bytes, value_section, log_section}
use Rattle.cells.specs.Part.{part, patch}
use Rattle.cells.proofs.CloseLaws.{take_next}
use Rattle.change_log.specs.Undone.{Undone}
use Rattle.change_log.proofs.DropLaws.{ClosingLog, log_none, log-here, log_turn, log-all}

-- THE LOOP: what is left of the first i, and the entries undone by them
pub record Withdrawing (s : Set) (l : List LogRecord) (undone : Set) (log : List ℕ) (i j : ℕ) : Type 0 where
  pub closing : ClosingLog l log i j (records_left s (take i l))
  pub entries : (e : ℕ) → undone e ≡ any (owned_on s e) (take i l)

pub withdrawing_none : (s : Set) (l : List LogRecord) (undone : Set) (log : List ℕ) → ((e : ℕ) → undone e ≡ false) → length l ≤ 2048 → log ≡ log_section l → Withdrawing s l undone log 0 0
unfolding records_left any
withdrawing_none s l undone log n h e = record { closing = log_none l log h e; entries = n }

module _ (s : Set) (l : List LogRecord) (undone : Set) (log : List ℕ) (i j : ℕ) (m : Withdrawing s l undone log i j) (h : i < length l) where
  -- the next record, read from its bytes
  pub next_record : part log (i * 6) 6 ≡ record_bytes (get_or l i no_record)
  next_record = log-here l log i j (records_left s (take i l)) m.closing h

  pub withdrawing_turn : {values values' : List ℕ} {undone' : Set} (b : Bool) → Undone s (get_or l i no_record) undone values b undone' values' → (r : ℕ) (out : List ℕ) → i * 6 + 6 ≤ length log
      → r ≡ cond b (j + 1) j → out ≡ cond b (patch log (j * 6) (part log (i * 6) 6)) log → Withdrawing s l undone' out (i + 1) r
  unfolding any
  withdrawing_turn {undone' = undone'} b u r out room er eo = record {
    closing = log_turn l log i j (records_left s (take i l)) m.closing h b (records_left s (take (i + 1) l)) left r out room er eo;
    entries = λ e. u.entries e ∙ ap (λ (x : Bool). x || owned_on s e q) (m.entries e)
        ∙ sym (ap (any (owned_on s e)) (take_next no_record l i h) ∙ any_join (owned_on s e) (take i l) (q ∷ []) ∙ ap (λ (x : Bool). any (owned_on s e) (take i l) || x) (or-false (owned_on s e q)));
  }
    where
      q : LogRecord
      q = get_or l i no_record

      turned : (x y : Bool) → b ≡ not (x || y) → cond (x || y) [] (q ∷ []) ≡ cond b (q ∷ []) []
      turned true y e = rw e refl
      turned false true e = rw e refl
      turned false false e = rw e refl

      left : records_left s (take (i + 1) l) ≡ records_left s (take i l) ++ cond b (q ∷ []) []
      left = ap (records_left s) (take_next no_record l i h) ∙ left_more s (take i l) q
          ∙ ap (λ (t : List LogRecord). records_left s (take i l) ++ t) (turned (any (owned_on s q.entry) (take i l)) (s q.owner) (u.test ∙ ap (λ (x : Bool). not (x || s q.owner)) (m.entries q.entry)))

  -- the values with it
  pub withdrawing_values : {values values' : List ℕ} {undone' : Set} {b : Bool} → Undone s (get_or l i no_record) undone values b undone' values' → ((k : ℕ) → (get_or l k no_record).before < 2 ^ 32)
      → (v : ℕ → ℕ) → values ≡ value_section (undo s (take i l) v) → values' ≡ value_section (undo s (take (i + 1) l) v)
  withdrawing_values u f v e = u.stored (undo s (take i l) v) (f i) e
      ∙ ap value_section (sym (ap (λ (t : List LogRecord). undo s t v) (take_next no_record l i h) ∙ undo-more s (take i l) q v
      ∙ ap (λ (x : Bool). cond x (undo s (take i l) v) (undo s (q ∷ []) (undo s (take i l) v))) (sym (m.entries q.entry))))
    where
      q : LogRecord
      q = get_or l i no_record

-- all were read, and the rest is cleared
pub withdrawing_all : (s : Set) (l : List LogRecord) (undone : Set) (log : List ℕ) (n j : ℕ) (out : List ℕ) → length l ≡ n → n ≤ 2048 → Withdrawing s l undone log n j
    → out ≡ patch log (j * 6) (replicate (n * 6 - j * 6) 0) → Tabled log_section (records_left s l) j out
withdrawing_all s l undone log n j out e h m = log-all l log n j (records_left s l) out e h (rw (take_all n l (omega arith)) at m.closing)

-- by no record the values stay
pub undo-nothing : (s : Set) (v : ℕ → ℕ) → v ≡ undo s [] v
unfolding undo
undo-nothing s v = refl

-- ONE RECORD UNDONE: its entry has been
module _ (ended : Set) (r : LogRecord) (undone : Set) (values : List ℕ) where
  pub undone_before : undone r.entry ≡ true → Undone ended r undone values false undone values
  unfolding owned_on
  undone_before h = record {
    test = rw h;
    entries = λ e. go e (same? e r.entry);
    stored = λ v b q. rw h q;
  }
    where
      go : (e : ℕ) {d : Bool} → Same e r.entry d → undone e ≡ undone e || ended r.owner && d
      go e (same q) = rw (ap undone q ∙ h)
      go e (other n) = rw (and-false (ended r.owner), or-false (undone e))

  -- what one record makes of the values
  undo-one : (v : ℕ → ℕ) (b : Bool) → ended r.owner ≡ b → undo ended (r ∷ []) v ≡ cond b (put v r.entry r.before) v
  unfolding undo owned_on put
  undo-one v true h = fun_ext (λ e. rw h)
  undo-one v false h = fun_ext (λ e. rw h)

  -- its owner lives on
  pub undone_not : undone r.entry ≡ false → ended r.owner ≡ false → Undone ended r undone values true undone values
  unfolding owned_on
  undone_not h o = record {
    test = rw (h, o);
    entries = λ e. rw (o, or-false (undone e));
    stored = λ v b q. rw h (q ∙ ap value_section (sym (undo-one v false o)));
  }

  -- it gives the value
  pub undone_now : undone r.entry ≡ false → ended r.owner ≡ true → (values' : List ℕ) (undone' : Set) (before : ℕ) → (r.before < 2 ^ 32 → before ≡ r.before)
      → ((v : ℕ → ℕ) → values ≡ value_section v → values' ≡ value_section (put v r.entry before)) → ((e : ℕ) → undone' e ≡ eqb e r.entry || undone e)
      → Undone ended r undone values false undone' values'
  unfolding owned_on
  undone_now h o values' undone' before f g n = record {
    test = rw (h, o);
    entries = λ e. rw o (n e ∙ or_comm (eqb e r.entry) (undone e));
    stored = λ v b q. rw h (g v q ∙ ap value_section (ap (put v r.entry) (f b) ∙ sym (undo-one v true o)));
  }
