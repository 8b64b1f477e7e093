-- A section of a window's bytes lent to a function and handed back, with any figures in the header; and a figure stored after it. Assumes nothing.
use mathlib.Core.Path.{◌≡◌, ◌∙◌, ap}
use mathlib.Core.List.{List}
use Prim.Native.Nat.{ℕ, ◌<◌}
use native.Mathlib.Omega.{arith}
use lib.ListN.{length, take, drop, set}
use Rattle.rules.specs.Window.{LogRecord, PermitRecord, TieRecord, LineRecord, Window, with_value, with_status, with_held, with_log, with_permits, with_ties, with_line}
use Rattle.layout.specs.Codec.{head_at, head_size, values_at, values_size, changes_at, changes_size, line_at, line_size, locks_at, locks_size, permits_at, permits_size, ties_at, ties_size, log_at, log_size, figures, head_section, value_section, change_section, line_section, lock_section, permit_section, tie_section, log_section, lay, encode}
use Rattle.layout.specs.Records.{Tabled}
use Rattle.layout.proofs.PartLaws.{head_part, values-part, changes-part, line-part, locks-part, permits-part, ties_part, log-part}
use Rattle.layout.proofs.PutLaws.{laid_at, with_changes, head_put, values-put, changes-put, line-put, locks-put, permits-put, ties-put, log-put}

-- the bytes with another header
abbrev pub head_laid : List ℕ → List ℕ → List ℕ
head_laid bs = laid_at bs head_at head_size

-- the part that is cut out is s, and t comes back in its place
pub lent : (at n : ℕ) {bs out old new s t : List ℕ} → take n (drop at old) ≡ s → laid_at old at n t ≡ new → bs ≡ old → (take n (drop at bs) ≡ s → out ≡ t) → laid_at bs at n out ≡ new
lent at n {bs} {out} {old} {new} {s} {t} cut back e f = ap (laid_at bs at n) (f (ap (λ l. take n (drop at l)) e ∙ cut)) ∙ ap (λ l. laid_at l at n t) e ∙ back

-- what a function that stores figure k leaves of the header
abbrev pub FigureStored : List ℕ → ℕ → ℕ → List ℕ → Type 0
FigureStored bs k v out = (fs : List ℕ) → take head_size bs ≡ head_section fs → k < length fs → out ≡ head_section (set fs k v)

module _ {bs : List ℕ} (fs : List ℕ) (W : Window) (e : bs ≡ lay fs W) {out : List ℕ} where
  head_lent : (k v : ℕ) → k < length fs → FigureStored bs k v out → head_laid bs out ≡ lay (set fs k v) W
  head_lent k v h f = lent head_at head_size (head_part fs W) (head_put fs W (set fs k v)) e (λ q. f fs q h)

  pub values_lent : (x : ℕ → ℕ) → (take values_size (drop values_at bs) ≡ value_section W.value → out ≡ value_section x) → laid_at bs values_at values_size out ≡ lay fs (with_value W x)
  values_lent x = lent values_at values_size (values-part fs W) (values-put fs W x) e

  pub changes_lent : (s p : ℕ → ℕ) → (take changes_size (drop changes_at bs) ≡ change_section W.status W.parent → out ≡ change_section s p)
      → laid_at bs changes_at changes_size out ≡ lay fs (with_changes W s p)
  changes_lent s p = lent changes_at changes_size (changes-part fs W) (changes-put fs W s p) e

  line_lent : (x : List LineRecord) → (take line_size (drop line_at bs) ≡ line_section W.line → out ≡ line_section x) → laid_at bs line_at line_size out ≡ lay fs (with_line W x)
  line_lent x = lent line_at line_size (line-part fs W) (line-put fs W x) e

  locks_lent : (x : ℕ → ℕ → ℕ) → (take locks_size (drop locks_at bs) ≡ lock_section W.held → out ≡ lock_section x) → laid_at bs locks_at locks_size out ≡ lay fs (with_held W x)
  locks_lent x = lent locks_at locks_size (locks-part fs W) (locks-put fs W x) e

  permits_lent : (x : List PermitRecord) → (take permits_size (drop permits_at bs) ≡ permit_section W.permits → out ≡ permit_section x)
      → laid_at bs permits_at permits_size out ≡ lay fs (with_permits W x)
  permits_lent x = lent permits_at permits_size (permits-part fs W) (permits-put fs W x) e

  ties_lent : (x : List TieRecord) → (take ties_size (drop ties_at bs) ≡ tie_section W.ties → out ≡ tie_section x) → laid_at bs ties_at ties_size out ≡ lay fs (with_ties W x)
  ties_lent x = lent ties_at ties_size (ties_part fs W) (ties-put fs W x) e

  pub log_lent : (x : List LogRecord) → (take log_size (drop log_at bs) ≡ log_section W.log → out ≡ log_section x) → laid_at bs log_at log_size out ≡ lay fs (with_log W x)
  log_lent x = lent log_at log_size (log-part fs W) (log-put fs W x) e

-- where the figures stay: from the bytes of one window to those of another
module _ (W : Window) {bs : List ℕ} (e : bs ≡ encode W) {out : List ℕ} where
  pub values_back : (x : ℕ → ℕ) → (take values_size (drop values_at bs) ≡ value_section W.value → out ≡ value_section x) → laid_at bs values_at values_size out ≡ encode (with_value W x)
  unfolding encode figures with_value lay
  values_back x = values_lent (figures W) W e x

  pub statuses_back : (x : ℕ → ℕ) → (take changes_size (drop changes_at bs) ≡ change_section W.status W.parent → out ≡ change_section x W.parent)
      → laid_at bs changes_at changes_size out ≡ encode (with_status W x)
  unfolding encode figures with_status with_changes lay
  statuses_back x = changes_lent (figures W) W e x W.parent

  pub locks_back : (x : ℕ → ℕ → ℕ) → (take locks_size (drop locks_at bs) ≡ lock_section W.held → out ≡ lock_section x) → laid_at bs locks_at locks_size out ≡ encode (with_held W x)
  unfolding encode figures with_held lay
  locks_back x = locks_lent (figures W) W e x

-- the figures brought up to date after the sections: the bytes of the new window
pub figure_stored : {bs : List ℕ} (W W' : Window) → bs ≡ lay (figures W) W' → {out : List ℕ} (k v : ℕ) → k < 6 → FigureStored bs k v out → set (figures W) k v ≡ figures W'
    → head_laid bs out ≡ encode W'
unfolding encode figures
figure_stored W W' e k v h f q = head_lent (figures W) W' e k v h f ∙ ap (λ fs. lay fs W') q

-- A TABLE comes back with other records, and its figure is stored
module _ (W : Window) {bs : List ℕ} (e : bs ≡ encode W) {r : ℕ} {out head : List ℕ} where
  pub log_back : {x : List LogRecord} → (take log_size (drop log_at bs) ≡ log_section W.log → Tabled log_section x r out) → FigureStored (laid_at bs log_at log_size out) 2 r head
      → head_laid (laid_at bs log_at log_size out) head ≡ encode (with_log W x)
  unfolding encode figures with_log
  log_back {x} f g = let t = f (ap (λ l. take log_size (drop log_at l)) e ∙ log-part (figures W) W) in
      figure_stored W (with_log W x) (log_lent (figures W) W e x (λ _. t.bytes)) 2 r (omega arith) g (rw t.count)

  pub permits_back : {x : List PermitRecord} → (take permits_size (drop permits_at bs) ≡ permit_section W.permits → Tabled permit_section x r out) → FigureStored (laid_at bs permits_at permits_size out) 3 r head
      → head_laid (laid_at bs permits_at permits_size out) head ≡ encode (with_permits W x)
  unfolding encode figures with_permits
  permits_back {x} f g = let t = f (ap (λ l. take permits_size (drop permits_at l)) e ∙ permits-part (figures W) W) in
      figure_stored W (with_permits W x) (permits_lent (figures W) W e x (λ _. t.bytes)) 3 r (omega arith) g (rw t.count)

  pub ties_back : {x : List TieRecord} → (take ties_size (drop ties_at bs) ≡ tie_section W.ties → Tabled tie_section x r out) → FigureStored (laid_at bs ties_at ties_size out) 4 r head
      → head_laid (laid_at bs ties_at ties_size out) head ≡ encode (with_ties W x)
  unfolding encode figures with_ties
  ties_back {x} f g = let t = f (ap (λ l. take ties_size (drop ties_at l)) e ∙ ties_part (figures W) W) in
      figure_stored W (with_ties W x) (ties_lent (figures W) W e x (λ _. t.bytes)) 4 r (omega arith) g (rw t.count)

  pub line_back : {x : List LineRecord} → (take line_size (drop line_at bs) ≡ line_section W.line → Tabled line_section x r out) → FigureStored (laid_at bs line_at line_size out) 5 r head
      → head_laid (laid_at bs line_at line_size out) head ≡ encode (with_line W x)
  unfolding encode figures with_line
  line_back {x} f g = let t = f (ap (λ l. take line_size (drop line_at l)) e ∙ line-part (figures W) W) in
      figure_stored W (with_line W x) (line_lent (figures W) W e x (λ _. t.bytes)) 5 r (omega arith) g (rw t.count)
