-- `layout::most` meets its contract: the constants are the figures of the definition. Assumes nothing.
use mathlib.Core.Path.{refl}
use Rattle.rules.specs.Window.{limits}
use Rattle.layout.proofs.most.Statement.{statement}
use Rattle.layout.proofs.most.Tie as tie

returns : tie.Need-returns
unfolding limits
returns c = record { entries = refl; changes = refl; records = refl; permits = refl; ties = refl }

pub most_spec : {M : Type 1} → statement M
most_spec = tie.close (tie.spec returns)
