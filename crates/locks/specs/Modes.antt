-- The modes of a lock and their numbers. Assumes nothing.
use Rattle.std.specs.Prelude.{◌≡◌, ◌≢◌, ℕ, Option, Some, None}
use Rattle.locks.specs.declared.modes.Mode.{Mode}
use Rattle.locks.specs.declared.modes.Mode.TheVariants.{Read, Write}

-- "1 read or 2 write"
abbrev pub number_of : Mode → ℕ
number_of Read = 1
number_of Write = 2

-- a number is a mode's, or that of no mode
abbrev pub StandsFor : Option Mode → ℕ → Type 0
StandsFor None v = (v ≢ 1) × (v ≢ 2)
StandsFor (Some m) v = v ≡ number_of m
