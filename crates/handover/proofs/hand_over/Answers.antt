-- `handover::hand_over` meets its contract: the draft handed over is judged, and put into the window where each clashing pair has its permit. Assumes nothing.
use mathlib.Core.Path.{sym, ◌∙◌, ap}
use mathlib.Core.Bool.{cond}
use Rattle.rules.specs.Effects.{hand_over}
use Rattle.layout.specs.Codec.{decode, encode}
use Rattle.layout.proofs.MemoryLaws.{bytes-sound}
use Rattle.scope.specs.Entries.{entries_of}
use Rattle.handed.proofs.JudgeLaws.{to_judge}
use Rattle.handover.proofs.hand_over.Goals as goal

pub returns-then-not-all_permitted : goal.returns-then-not-all_permitted
returns-then-not-all_permitted c = let s = c in
    let a = s.args in
    let bs = a.w.now in
    let on = entries_of a.over.scope in
    let h = sym c.if-not-all_permitted.true ∙ c.all_permitted.ensures _ (to_judge (decode bs) a.over.from a.over.to on (bytes-sound bs s.requires.w_value) s.requires.to_value _ c.hand_over.ensures) in
    record { value = ap (λ b. cond b 0 10) h; w_after = ap (λ b. cond b (encode (hand_over (decode bs) a.over.from a.over.to on)) bs) h }

pub returns : goal.returns
returns c = let s = c in
    let a = s.args in
    let bs = a.w.now in
    let on = entries_of a.over.scope in
    let h = sym c.if-not-all_permitted.false ∙ c.all_permitted.ensures _ (to_judge (decode bs) a.over.from a.over.to on (bytes-sound bs s.requires.w_value) s.requires.to_value _ c.hand_over.ensures) in
    record { value = ap (λ b. cond b 0 10) h; w_after = c.put_into.ensures c.hand_over.ensures ∙ ap (λ b. cond b (encode (hand_over (decode bs) a.over.from a.over.to on)) bs) h }
