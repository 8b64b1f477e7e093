-- An entry whose locks may clash. Its readers are r, its writers x. Assumes nothing.
use Rattle.std.specs.Prelude.{Bool, ◌&&◌}
use Rattle.rules.specs.Base.{any_below}
use Rattle.rules.specs.Sets.{Set}
use Rattle.beside.specs.Beside.{other_holder}

-- there is a writer and another holder
unfoldable pub contested : Set → Set → Bool
contested r x = any_below 256 (λ a. x a && any_below 256 (other_holder r x a))
