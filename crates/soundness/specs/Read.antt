-- The figures that the code reads from a header. Assumes nothing.
use Rattle.std.specs.Prelude.{◌≡◌, List, ℕ}
use Rattle.sections.specs.Sections.{HeadSound}
use Rattle.soundness.specs.declared.Figures.{Figures}

-- they are those of a sound header
pub record AreFigures {bs : List ℕ} (h : HeadSound bs) (f : Figures) : Type 0 where
  pub entries : f.entries ≡ h.entries
  pub given : f.given ≡ h.given
  pub records : f.records ≡ h.records
  pub permits : f.permits ≡ h.permits
  pub ties : f.ties ≡ h.ties
  pub waiters : f.waiters ≡ h.waiters
