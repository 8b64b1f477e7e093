-- What the line's section of a sound window is: the bytes of a line that soundness allows. The record gives the line. Assumes nothing.
use Rattle.std.specs.Prelude.{◌≡◌, true, List, ℕ, eqb, length}
use Rattle.rules.specs.Base.{all, distinct}
use Rattle.rules.specs.Sets.{Set}
use Rattle.rules.specs.Window.{LineRecord}
use Rattle.rules.specs.Sound.{waiter_sound}
use Rattle.layout.specs.Codec.{line_section}

-- those who run, by the statuses
unfoldable pub run_by : (ℕ → ℕ) → Set
run_by status c = eqb (status c) 2

-- the line: each who stands in it runs, and stands once
pub record LineSound (bs : List ℕ) (count entries : ℕ) (runs : Set) : Type 0 where
  pub line : List LineRecord
  pub size : length line ≡ count
  pub bytes : bs ≡ line_section line
  pub fine : all (waiter_sound entries runs) line ≡ true
  pub once : distinct (λ r. r.change) line ≡ true
