-- What each test of the whole check says of sound bytes. Assumes nothing.
use mathlib.Core.Path.{◌≡◌, sym, ◌∙◌, ap, fun_ext}
use mathlib.Core.Bool.{Bool, true, ◌&&◌}
use mathlib.Core.List.{List}
use mathlib.Core.Logic.{◌↔◌}
use Prim.Native.Nat.{ℕ, suc}
use lib.ListN.{length}
use Rattle.rules.specs.Sets.{Set}
use Rattle.rules.specs.Window.{Window, lives}
use Rattle.rules.specs.Locks.{clashes_permitted}
use Rattle.rules.specs.Ties.{acyclic}
use Rattle.rules.proofs.BaseLaws.{and_left, and_right}
use Rattle.layout.specs.Codec.{head_at, head_size, changes_at, changes_size, locks_at, locks_size, window_size, change_section}
use Rattle.layout.specs.Memory.{sound_bytes}
use Rattle.cells.specs.Part.{part}
use Rattle.sections.specs.Sections.{HeadSound, ChangesSound, LocksSound}
use Rattle.line_section.specs.Sections.{run_by}
use Rattle.parts.specs.Parts.{FrontSound, BackSound, Listed}
use Rattle.soundness.specs.Read.{AreFigures}
use Rattle.soundness.specs.declared.Figures.{Figures}
use Rattle.soundness.proofs.Assembly.{W, head_known, changes_known, front_known, back_known, gathered, gathered_all, gathered_listed, listed_known, relations_known}

-- m is the set of the live changes that bytes of changes say
abbrev Lives : List ℕ → ℕ → Set → Type 0
Lives bs given m = (st pa : ℕ → ℕ) → part bs changes_at changes_size ≡ change_section st pa → (k : ℕ) → m k ≡ lives given st k

-- r decides whether the values, the line and the locks are sound beside the changes
abbrev Fronted : List ℕ → ℕ → ℕ → Set → Bool → Type 0
Fronted bs entries waiters m r = (st pa : ℕ → ℕ) → part bs changes_at changes_size ≡ change_section st pa → (r ≡ true ↔ FrontSound bs entries waiters m (run_by st))

-- r decides whether the permits, the ties and the log are sound beside sound locks
abbrev Decided : List ℕ → ℕ → ℕ → ℕ → ℕ → Set → Bool → Type 0
Decided bs entries permits ties records m r = (z : LocksSound (part bs locks_at locks_size) entries m) → (r ≡ true ↔ BackSound bs entries permits ties records m z.held)

-- r is what the last two tests say
abbrev Says : List ℕ → ℕ → ℕ → ℕ → Bool → Type 0
Says bs entries permits ties r = (w : Window) → Listed bs entries permits ties w → r ≡ acyclic (suc w.given) w.ties && clashes_permitted w

module _ (bs : List ℕ) (f : Figures) (read : (h : HeadSound (part bs head_at head_size)) → AreFigures h f) (s : sound_bytes bs ≡ true) where
  figures_known : AreFigures (head_known bs s) f
  figures_known = read (head_known bs s)

  pub changes_asked : ChangesSound (part bs changes_at changes_size) f.given
  unfolding head_known
  changes_asked = rw figures_known.given (changes_known bs s)

  module _ (m : Set) (live : Lives bs f.given m) where
    members_known : m ≡ lives (W bs s).given (W bs s).status
    unfolding head_known changes_known
    members_known = fun_ext (λ k. live _ _ (changes_known bs s).bytes k ∙ ap (λ g. lives g (W bs s).status k) figures_known.given)

    pub front_asked : (r : Bool) → Fronted bs f.entries f.waiters m r → r ≡ true
    unfolding head_known changes_known
    front_asked r d = (d _ _ (changes_known bs s).bytes).1 (rw (figures_known.entries, figures_known.waiters, members_known) (front_known bs s))

    pub back_asked : (r : Bool) → Decided bs f.entries f.permits f.ties f.records m r → r ≡ true
    unfolding head_known front_known
    back_asked r d =
        let k = W bs s in
        let d' : Decided bs k.entries (length k.permits) (length k.ties) (length k.log) (lives k.given k.status) r = rw (figures_known.entries, figures_known.permits, figures_known.ties, figures_known.records, members_known) at d in
        (d' (front_known bs s).locks).1 (back_known bs s)

  pub related_asked : (r : Bool) → Says bs f.entries f.permits f.ties r → r ≡ true
  unfolding head_known
  related_asked r d = d (W bs s) (rw (figures_known.entries, figures_known.permits, figures_known.ties) (listed_known bs s)) ∙ relations_known bs s

module _ (bs : List ℕ) (size : length bs ≡ window_size) (h : HeadSound (part bs head_at head_size)) where
  -- all passed: the sections are sound, and the last two tests say so
  sections_passed : (c : ChangesSound (part bs changes_at changes_size) h.given) (t : FrontSound bs h.entries h.waiters (lives h.given c.status) (run_by c.status))
      → BackSound bs h.entries h.permits h.ties h.records (lives h.given c.status) t.locks.held
      → (r : Bool) → Says bs h.entries h.permits h.ties r → r ≡ true → sound_bytes bs ≡ true
  unfolding gathered
  sections_passed c t k r g y =
      let both : acyclic (suc h.given) k.ties.ties && clashes_permitted (gathered bs h c t k) ≡ true = sym (g (gathered bs h c t k) (gathered_listed bs h c t k)) ∙ y in
      gathered_all bs h c t k size (and_left (acyclic (suc h.given) k.ties.ties) (clashes_permitted (gathered bs h c t k)) both) (and_right (acyclic (suc h.given) k.ties.ties) (clashes_permitted (gathered bs h c t k)) both)

  -- the same, by the live changes found
  tests_passed : (m : Set) → Lives bs h.given m → ChangesSound (part bs changes_at changes_size) h.given
      → (o : Bool) → Fronted bs h.entries h.waiters m o → o ≡ true
      → (q : Bool) → Decided bs h.entries h.permits h.ties h.records m q → q ≡ true
      → (r : Bool) → Says bs h.entries h.permits h.ties r → r ≡ true → sound_bytes bs ≡ true
  tests_passed m live c o t i q d e r g y =
      let same : m ≡ lives h.given c.status = fun_ext (λ k. live _ _ c.bytes k) in
      let t' : FrontSound bs h.entries h.waiters (lives h.given c.status) (run_by c.status) = rw same at ((t c.status c.parent c.bytes).0 i) in
      let d' : Decided bs h.entries h.permits h.ties h.records (lives h.given c.status) q = rw same at d in
      sections_passed c t' ((d' t'.locks).0 e) r g y

  -- the same, by the figures read
  pub passed : (f : Figures) → AreFigures h f → (m : Set) → Lives bs f.given m → ChangesSound (part bs changes_at changes_size) f.given
      → (o : Bool) → Fronted bs f.entries f.waiters m o → o ≡ true
      → (q : Bool) → Decided bs f.entries f.permits f.ties f.records m q → q ≡ true
      → (r : Bool) → Says bs f.entries f.permits f.ties r → r ≡ true → sound_bytes bs ≡ true
  passed f a m live c o t i q d e r g y = tests_passed m (rw a.given at live) (rw a.given at c) o (rw (a.entries, a.waiters) at t) i q (rw (a.entries, a.permits, a.ties, a.records) at d) e r (rw (a.entries, a.permits, a.ties) at g) y
