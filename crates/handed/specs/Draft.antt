-- A draft of a window's locks and permits, on which a delegate's last refusal is judged. Assumes nothing.
use Rattle.std.specs.Prelude.{◌≡◌, length}
use Rattle.rules.specs.Window.{Window}
use Rattle.layout.specs.Codec.{lock_section, permit_section}
use Rattle.handed.specs.declared.Draft.{Draft}

-- it has a window's locks and permits, and as many entries and permits
pub record HasTables (W : Window) (d : Draft) : Type 0 where
  pub lock_bytes : d.locks ≡ lock_section W.held
  pub permit_bytes : d.permits ≡ permit_section W.permits
  pub entry-count : d.entries ≡ W.entries
  pub permit_count : d.count ≡ length W.permits
