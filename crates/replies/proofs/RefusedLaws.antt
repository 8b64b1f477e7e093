-- The number of a refusal. Assumes nothing.
use mathlib.Core.Logic.{◌≢◌}
use native.Mathlib.Omega.{arith}
use Rattle.replies.specs.declared.Refusal.{Refusal}
use Rattle.replies.specs.Refused.{code}

-- it is not that of done
pub code_some : (e : Refusal) → code e ≢ 0
code_some e = grind arith
