-- What is shared by the calls that only ask that there is a change. Assumes nothing.
use Rattle.std.specs.Prelude.{◌≡◌, ℕ}
use Rattle.rules.specs.Window.{limits, Window}
use Rattle.rules.specs.Calls.{Commit, Abort, Status, Parent}
use Rattle.rules.specs.Refusals.{checks, first_failed}

-- one number is the first refusal of each of the four
pub record ChangeRefusal (W : Window) (change r : ℕ) : Type 0 where
  pub commit : r ≡ first_failed (checks limits W (Commit change))
  pub abort : r ≡ first_failed (checks limits W (Abort change))
  pub status : r ≡ first_failed (checks limits W (Status change))
  pub parent : r ≡ first_failed (checks limits W (Parent change))
