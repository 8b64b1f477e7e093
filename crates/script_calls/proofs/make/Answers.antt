-- `script_calls::make` meets its contract. Assumes nothing.
use mathlib.Core.Path.{refl}
use Prim.Native.Nat.{◌+◌, ◌*◌, ◌≤◌}
use native.Mathlib.Omega.{arith}
use borrow.Author.Rules.{rules}
use Rattle.script_calls.specs.Fields.{readings, placed, reply_of}
use Rattle.script_calls.proofs.MakeLaws.{fields_of, fields_read, asked, not_alone, arm, single, no_call, none_made}
use Rattle.script_calls.proofs.make.Goals as goal

pub returns-in-11 : goal.returns-in-11
unfolding fields_read fields_of asked placed readings reply_of
returns-in-11 c = single c.args.memory.now _ c.args.fields (search rules) 1 refl (omega arith) (search rules)

pub returns-in-21 : goal.returns-in-21
unfolding fields_read fields_of asked placed readings reply_of
returns-in-21 c = single c.args.memory.now _ c.args.fields (search rules) 2 refl (omega arith) (search rules)

pub returns-in-31 : goal.returns-in-31
unfolding fields_read fields_of asked placed readings reply_of
returns-in-31 c = single c.args.memory.now _ c.args.fields (search rules) 3 refl (omega arith) (search rules)

pub returns-in-41 : goal.returns-in-41
unfolding fields_read fields_of asked placed readings reply_of
returns-in-41 c = single c.args.memory.now _ c.args.fields (search rules) 4 refl (omega arith) (search rules)

pub returns-in-111 : goal.returns-in-111
unfolding fields_read fields_of asked placed readings reply_of
returns-in-111 c = single c.args.memory.now _ c.args.fields (search rules) 11 refl (omega arith) (search rules)

pub returns-in-121 : goal.returns-in-121
unfolding fields_read fields_of asked placed readings reply_of
returns-in-121 c = single c.args.memory.now _ c.args.fields (search rules) 12 refl (omega arith) (search rules)

pub returns-in-131 : goal.returns-in-131
unfolding fields_read fields_of asked placed readings reply_of
returns-in-131 c = single c.args.memory.now _ c.args.fields (search rules) 13 refl (omega arith) (search rules)

pub returns-in-141 : goal.returns-in-141
unfolding fields_read fields_of asked placed readings reply_of
returns-in-141 c = single c.args.memory.now _ c.args.fields (search rules) 14 refl (omega arith) (search rules)

pub returns-in-151 : goal.returns-in-151
unfolding fields_read fields_of asked placed readings reply_of
returns-in-151 c = single c.args.memory.now _ c.args.fields (search rules) 15 refl (omega arith) (search rules)

pub returns-in-51-to-53 : goal.returns-in-51-to-53
unfolding fields_read fields_of asked placed readings reply_of
returns-in-51-to-53 c = arm c.args.memory.now _ c.args.fields (search rules) 5 (omega arith) (omega arith) (search rules)

pub returns-in-71-to-73 : goal.returns-in-71-to-73
unfolding fields_read fields_of asked placed readings reply_of
returns-in-71-to-73 c = arm c.args.memory.now _ c.args.fields (search rules) 7 (omega arith) (omega arith) (search rules)

pub returns-in-81-to-84 : goal.returns-in-81-to-84
unfolding fields_read fields_of asked placed readings reply_of
returns-in-81-to-84 c = arm c.args.memory.now _ c.args.fields (search rules) 8 (omega arith) (omega arith) (search rules)

pub returns-in-91-to-93 : goal.returns-in-91-to-93
unfolding fields_read fields_of asked placed readings reply_of
returns-in-91-to-93 c = arm c.args.memory.now _ c.args.fields (search rules) 9 (omega arith) (omega arith) (search rules)

pub returns-in-101-to-103 : goal.returns-in-101-to-103
unfolding fields_read fields_of asked placed readings reply_of
returns-in-101-to-103 c = arm c.args.memory.now _ c.args.fields (search rules) 10 (omega arith) (omega arith) (search rules)

-- in no arm
pub returns-in_default : goal.returns-in_default
returns-in_default c =
    let x = c.args.call * 10 + c.last_field.result in
    let h5 : 51 ≤ x → 54 ≤ x = grind arith in
    let h6 : 61 ≤ x → 63 ≤ x = grind arith in
    let h7 : 71 ≤ x → 74 ≤ x = grind arith in
    let h8 : 81 ≤ x → 85 ≤ x = grind arith in
    let h9 : 91 ≤ x → 94 ≤ x = grind arith in
    let h10 : 101 ≤ x → 104 ≤ x = grind arith in
    let n = not_alone x (((((((((tt, λ z. omega arith), λ z. omega arith), λ z. omega arith), λ z. omega arith), λ z. omega arith), λ z. omega arith), λ z. omega arith), λ z. omega arith), λ z. omega arith) in
    none_made c.args.memory.now _ c.args.fields (search rules) (no_call _ _ _ _ _ x (omega arith) n h5 h6 h7 h8 h9 h10) _ c.unchanged.ensures
