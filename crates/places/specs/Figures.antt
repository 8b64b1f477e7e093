-- The places of a header's figures. Assumes nothing.
use Rattle.std.specs.Prelude.{ℕ}
use Rattle.places.specs.declared.header.Figure.{Figure}
use Rattle.places.specs.declared.header.Figure.TheVariants.{Entries, Given, Records, Permits, Ties, Waiters}

-- the place of a figure among those that the header holds
abbrev pub place_of : Figure → ℕ
place_of Entries = 0
place_of Given = 1
place_of Records = 2
place_of Permits = 3
place_of Ties = 4
place_of Waiters = 5
