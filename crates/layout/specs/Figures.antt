-- What the constants of the window's types are, in code. Assumes nothing.
use Rattle.std.specs.Prelude.{◌≡◌}
use Rattle.rules.specs.Window.{limits}
use Rattle.layout.specs.declared.Largest.{Largest}

-- "The largest figures"
pub record AreLargest (r : Largest) : Type 0 where
  pub entries : r.entries ≡ limits.entries
  pub changes : r.changes ≡ limits.changes
  pub records : r.records ≡ limits.records
  pub permits : r.permits ≡ limits.permits
  pub ties : r.ties ≡ limits.ties
