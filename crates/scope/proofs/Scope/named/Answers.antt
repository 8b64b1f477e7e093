-- `Scope::named` meets its contract: one number is every entry. Assumes nothing.
use mathlib.Core.Path.{refl, fun_ext}
use borrow.Author.Tests.{ne_eqb}
use Rattle.rules.specs.Sets.{everything, only}
use Rattle.rules.specs.Effects.{every, entries_named}
use Rattle.scope.specs.Entries.{entries_of}
use Rattle.scope.proofs.Scope.named.Goals as goal

pub returns-then-every : goal.returns-then-every
unfolding entries_of entries_named everything every
returns-then-every c = fun_ext (λ x. rw c.if-every.true refl)

pub overflow_cast-result : goal.overflow_cast-result
unfolding every
overflow_cast-result c = record { fits = c.requires c.if-every.false }

pub returns : goal.returns
unfolding entries_of entries_named only every
returns c = fun_ext (λ x. rw (ne_eqb c.args.entry 65535 c.if-every.false) refl)
