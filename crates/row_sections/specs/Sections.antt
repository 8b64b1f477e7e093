-- What the sections of permits and of ties of a sound window are: the bytes of a table that soundness allows. Each record gives the table. Assumes nothing.
use Rattle.std.specs.Prelude.{◌≡◌, true, List, ℕ, length}
use Rattle.rules.specs.Base.{all, rising}
use Rattle.rules.specs.Sets.{Set}
use Rattle.rules.specs.Window.{PermitRecord, TieRecord, permit_key, tie_key}
use Rattle.rules.specs.Sound.{permit_sound, tie_sound}
use Rattle.layout.specs.Codec.{permit_section, tie_section}

-- permits: givers and takers live, and in order
pub record PermitsSound (bs : List ℕ) (count entries : ℕ) (lives : Set) : Type 0 where
  pub permits : List PermitRecord
  pub size : length permits ≡ count
  pub bytes : bs ≡ permit_section permits
  pub fine : all (permit_sound entries lives) permits ≡ true
  pub order : rising permit_key permits ≡ true

-- ties: both ends live, and in order
pub record TiesSound (bs : List ℕ) (count : ℕ) (lives : Set) : Type 0 where
  pub ties : List TieRecord
  pub size : length ties ≡ count
  pub bytes : bs ≡ tie_section ties
  pub fine : all (tie_sound lives) ties ≡ true
  pub order : rising tie_key ties ≡ true
