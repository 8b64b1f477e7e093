-- `script_lines::read_call` meets its contract: what the split yields are the parts of the line. Assumes nothing.
use mathlib.Core.Path.{◌≡◌, sym, ◌∙◌}
use mathlib.Core.Bool.{true, false}
use mathlib.Core.List.{List}
use Prim.Native.Nat.{ℕ}
use native.Mathlib.Omega.{arith}
use Rattle.std.specs.Prelude.{is_some}
use Rattle.std.proofs.Common.{rules, tests}
use Rattle.text.specs.Parts.{parted_by}
use Rattle.script_lines.proofs.PartLaws.{left_five, left_next, part_before, one_part, two_parts, three_parts, four_parts, five_parts, six_parts}
use Rattle.script_lines.proofs.LineLaws.{too_long, not_long}
use Rattle.script_lines.proofs.read_call.Goals as goal
use Rattle.script_lines.proofs.read_call.Goals.{After-next-5, After-next-6}

-- the parts that were asked for first, and what is left
five : (c : After-next-5) → (ps : List (List ℕ)) × (parted_by 44 c.args.line.now ≡ part_before c.next.result (part_before c.next-2.result (part_before c.next-3.result (part_before c.next-4.result (part_before c.next-5.result ps)))))
five c =
    let s = c.split-parts.ensures in
    let (ps, e, l) = left_five _ c.split-parts.result c.next.new.self c.next-2.new.self c.next-3.new.self c.next-4.new.self c.next-5.new.self _ _ _ _ _ _ c.args.line.now
    c.next.ensures.steps c.next-2.ensures.steps c.next-3.ensures.steps c.next-4.ensures.steps c.next-5.ensures.steps s.rest s.done s.closure (λ x b q k. search (rules, tests)) in
    (ps, e)

-- and with the one after them
six : (c : After-next-6) → (ps qs : List (List ℕ)) × (parted_by 44 c.args.line.now ≡ part_before c.next.result (part_before c.next-2.result (part_before c.next-3.result (part_before c.next-4.result (part_before c.next-5.result ps))))) × (ps ≡ part_before c.next-6.result qs)
six c =
    let s = c.split-parts.ensures in
    let (ps, e, l) = left_five _ c.split-parts.result c.next.new.self c.next-2.new.self c.next-3.new.self c.next-4.new.self c.next-5.new.self _ _ _ _ _ _ c.args.line.now
    c.next.ensures.steps c.next-2.ensures.steps c.next-3.ensures.steps c.next-4.ensures.steps c.next-5.ensures.steps s.rest s.done s.closure (λ x b q k. search (rules, tests)) in
    let (qs, h, m) = left_next _ c.next-5.new.self c.next-6.new.self _ ps l c.next-6.ensures.steps in
    (ps, qs, e, h)

pub returns-then-long : goal.returns-then-long
returns-then-long c = sym (too_long c.args.line.now (omega arith))

pub returns-in_default-4 : goal.returns-in_default-4
returns-in_default-4 c =
    let (ps, e) = five (goal.at.returns-in_default-4 c).After-next-5 in
    sym (not_long c.args.line.now (omega arith) ∙ one_part _ _ _ _ _ _ ps e c.in_default.is-0 c.in_default.is-1)

pub returns-in_default-3 : goal.returns-in_default-3
returns-in_default-3 c =
    let (ps, e) = five (goal.at.returns-in_default-3 c).After-next-5 in
    sym (not_long c.args.line.now (omega arith) ∙ two_parts _ _ _ _ _ _ ps e c.in_default.is-0 c.in_default.is-1 c.in_default.is-2)

pub returns-in_default-2 : goal.returns-in_default-2
returns-in_default-2 c =
    let (ps, e) = five (goal.at.returns-in_default-2 c).After-next-5 in
    sym (not_long c.args.line.now (omega arith) ∙ three_parts _ _ _ _ _ _ ps e c.in_default.is-0 c.in_default.is-1 c.in_default.is-2 c.in_default.is-3)

pub returns-in_default : goal.returns-in_default
returns-in_default c =
    let (ps, e) = five (goal.at.returns-in_default c).After-next-5 in
    sym (not_long c.args.line.now (omega arith) ∙ four_parts _ _ _ _ _ _ ps e c.in_default.is-0 c.in_default.is-1 c.in_default.is-2 c.in_default.is-3 c.in_default.is-4)

pub returns-then-more : goal.returns-then-more
returns-then-more c =
    let (ps, qs, e, h) = six (goal.at.returns-then-more c).After-next-6 in
    let more : is_some c.next-6.result ≡ true = cc in
    sym (not_long c.args.line.now (omega arith) ∙ six_parts _ _ _ _ _ _ ps e c.in-Some-Some-Some-Some-Some.is-0 c.in-Some-Some-Some-Some-Some.is-1 c.in-Some-Some-Some-Some-Some.is-2 c.in-Some-Some-Some-Some-Some.is-3 c.in-Some-Some-Some-Some-Some.is-4 _ qs h more)

pub returns : goal.returns
returns c =
    let (ps, qs, e, h) = six (goal.at.returns c).After-next-6 in
    let last : is_some c.next-6.result ≡ false = cc in
    c.read_fields.ensures ∙ sym (not_long c.args.line.now (omega arith) ∙ five_parts _ _ _ _ _ _ ps e c.in-Some-Some-Some-Some-Some.is-0 c.in-Some-Some-Some-Some-Some.is-1 c.in-Some-Some-Some-Some-Some.is-2 c.in-Some-Some-Some-Some-Some.is-3 c.in-Some-Some-Some-Some-Some.is-4 _ qs h last)
