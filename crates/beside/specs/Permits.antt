-- Permits by their places: whether one of the first n passes a test, and the first that does. Assumes nothing.
use Rattle.std.specs.Prelude.{◌≡◌, Bool, true, false, List, ℕ, ◌≤◌, ◌<◌}
use Rattle.rules.specs.Base.{any_below}
use Rattle.rules.specs.Window.{PermitRecord}
use Rattle.layout.specs.Records.{permit_at}

-- one of the first n permits passes
unfoldable pub any_of : ℕ → (ℕ → PermitRecord) → (PermitRecord → Bool) → Bool
any_of n t p = any_below n (λ j. p (t j))

-- a place from a start on, and at most the count, with none on the way whose permit passes
pub record NoneBefore (p : PermitRecord → Bool) (bs : List ℕ) (count start at : ℕ) : Type 0 where
  pub from : start ≤ at
  pub to : at ≤ count
  pub skipped : (j : ℕ) → start ≤ j → j < at → p (permit_at bs j) ≡ false

-- the first place from a start on whose permit passes; the count where there is none
pub record FirstOf (p : PermitRecord → Bool) (bs : List ℕ) (count start at : ℕ) : Type 0 where
  pub before : NoneBefore p bs count start at
  -- it passes itself
  pub found : at < count → p (permit_at bs at) ≡ true
