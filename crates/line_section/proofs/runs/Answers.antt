-- `line_section::runs` meets its contract. Assumes nothing.
use mathlib.Core.Path.{◌≡◌, refl}
use borrow.Author.Rules.{rules}
use Rattle.line_section.specs.Fits.{run_in}
use Rattle.line_section.proofs.runs.Goals as goal

pub returns : goal.returns
unfolding run_in
returns c = let i : c.from.result ≡ c.args.c = search rules in rw i refl
