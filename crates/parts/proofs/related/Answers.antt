-- `parts::related` meets its contract. Assumes nothing.
use mathlib.Core.Path.{◌≡◌, sym, ◌∙◌, ap}
use mathlib.Core.Bool.{true, ◌&&◌}
use native.Mathlib.Omega.{arith}
use Rattle.rules.specs.Locks.{clashes_permitted}
use Rattle.layout.specs.Codec.{locks_at, locks_size, permits_at, permits_size}
use Rattle.cells.specs.Part.{part}
use Rattle.cells.proofs.PartLaws.{length_part}
use borrow.Author.Rules.{rules}
use Rattle.parts.proofs.related.Goals as goal

pub acyclic-requires : goal.acyclic-requires
acyclic-requires c = omega (arith, c.requires)

pub all_permitted-requires : goal.all_permitted-requires
unfolding part
all_permitted-requires c = let w = c.args.w.now in
    let p = c.requires in record { locks_len = length_part w locks_at locks_size (omega arith); permits_len = length_part w permits_at permits_size (omega arith); entries_bound = p.entries_bound.0; count_bound = p.entries_bound.1 }

pub returns : goal.returns
unfolding part
returns c = λ W l.
    let e = c.acyclic.ensures W.ties _ l.tie_count l.ties_stored l.ends in
    let f : c.acyclic.result ≡ true = search rules in
    c.all_permitted.ensures W l.held ∙ ap (λ x. x && clashes_permitted W) (sym f ∙ e)
