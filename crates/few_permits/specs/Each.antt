-- Whether a test passes for each member of a set. Assumes nothing.
use Rattle.std.specs.Prelude.{◌≡◌, Bool, true, false, ℕ, ◌<◌}
use Rattle.rules.specs.Sets.{Set}

-- `gives k b`: of k the test may give b. It passes for each member, or it fails for one
pub record EachOf (gives : ℕ → Bool → Type 0) (s : Set) (all : Bool) : Type 0 where
  pub passed : all ≡ true → (k : ℕ) → k < 256 → s k ≡ true → gives k true
  pub failed : all ≡ false → (k : ℕ) × (k < 256) × (s k ≡ true) × gives k false
