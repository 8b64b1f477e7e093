-- `change_log::append` meets its contract. Assumes nothing.
use mathlib.Core.Path.{◌∙◌}
use native.Mathlib.Omega.{arith}
use lib.ListN.{length-set}
use Rattle.rules.specs.Effects.{add_record}
use Rattle.change_log.proofs.LogLaws.{record_append}
use Rattle.change_log.proofs.append.Goals as goal

pub shape_of-log : goal.shape_of-log
shape_of-log c = c.write_u32.auto.s ∙ simp length-set

pub returns : goal.returns
unfolding add_record
returns c = let s = c in let a = s.args in
    λ l e q. c.write_u32.ensures ∙ record_append a.log.now l a.count (record { owner = a.owner; entry = a.entry; before = a.before }) e q s.requires.count_bound

pub bounds-log-at-2 : goal.bounds-log-at-2
bounds-log-at-2 c = simp length-set (omega arith)

pub write_u32-requires : goal.write_u32-requires
write_u32-requires c = simp length-set (omega arith)
