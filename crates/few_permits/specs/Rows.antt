-- Permits as rows of four bytes. Assumes nothing.
use Rattle.std.specs.Prelude.{List, [], ℕ, get_or}
use Rattle.rules.specs.Window.{PermitRecord}
use Rattle.layout.specs.Records.{permit_at}

-- the permit whose bytes are row j
unfoldable pub permit_row : List (List ℕ) → ℕ → PermitRecord
permit_row rows j = permit_at (get_or rows j []) 0
