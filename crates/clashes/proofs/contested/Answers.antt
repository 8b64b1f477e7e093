-- `clashes::contested` meets its contract: there is no writer, there is a reader beside one, or a writer besides the lowest is looked for. Assumes nothing.
use mathlib.Core.Path.{sym, ◌∙◌}
use native.Mathlib.Omega.{arith}
use borrow.Author.Rules.{rules}
use Rattle.sets.specs.Members.{members}
use Rattle.locks.specs.Held.{in_mode}
use Rattle.clashes.proofs.ContestedLaws.{any-in_mode, modes_apart, contested_not, contested_reader, contested-writers}
use Rattle.clashes.proofs.contested.Goals as goal

pub returns-then-not-any_held : goal.returns-then-not-any_held
returns-then-not-any_held c held e = let a = c.args in
    let w = any-in_mode held e a.entry 1 (search rules) (omega arith) (omega arith) c.any_held.ensures in
    contested_not (in_mode 1 (held a.entry)) (in_mode 2 (held a.entry)) (sym w ∙ c.if-not-any_held.true)

pub returns-then-any_held : goal.returns-then-any_held
returns-then-any_held c held e = let a = c.args in
    let w = any-in_mode held e a.entry 1 (search rules) (omega arith) (omega arith) c.any_held.ensures in
    let r = any-in_mode held e a.entry 0 (search rules) (omega arith) (omega arith) c.any_held-2.ensures in
    contested_reader (in_mode 1 (held a.entry)) (in_mode 2 (held a.entry)) (modes_apart (held a.entry)) (sym w ∙ c.if-not-any_held.false) (sym r ∙ c.if-any_held.true)

pub returns : goal.returns
returns c held e = let a = c.args in
    let w = any-in_mode held e a.entry 1 (search rules) (omega arith) (omega arith) c.any_held.ensures in
    let r = any-in_mode held e a.entry 0 (search rules) (omega arith) (omega arith) c.any_held-2.ensures in
    contested-writers (in_mode 1 (held a.entry)) (in_mode 2 (held a.entry)) (members c.writers.result) (c.writers.ensures held e) (sym w ∙ c.if-not-any_held.false) (sym r ∙ c.if-any_held.false)
    (members c.rest.result) c.rest.ensures c.is_empty.result c.is_empty.ensures
