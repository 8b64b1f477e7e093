-- `change_log::undo_record` meets its contract: the entry is undone already, the owner lives on, or the record gives the value. Assumes nothing.
use mathlib.Core.Path.{sym, ap, ◌∙◌}
use mathlib.Core.Bool.{◌||◌}
use Prim.Native.Nat.{ℕ}
use lib.Dec.{eqb}
use Rattle.rules.specs.Base.{put}
use Rattle.layout.specs.Codec.{value_section}
use Rattle.words.specs.Members.{words_have}
use Rattle.change_log.proofs.WithdrawLaws.{undone_before, undone_not, undone_now}
use Rattle.change_log.proofs.undo_record.Goals as goal

pub returns-then-among : goal.returns-then-among
returns-then-among c = let a = c.args in let undone = words_have a.undone.now in
    λ q r. undone_before (words_have a.ended.now) q undone a.values.now (ap undone (sym r.entry) ∙ sym c.among.ensures ∙ c.if-among.true)

pub returns-then-not-among : goal.returns-then-not-among
returns-then-not-among c = let a = c.args in
    let ended = words_have a.ended.now in let undone = words_have a.undone.now in
    λ q r. undone_not ended q undone a.values.now (ap undone (sym r.entry) ∙ sym c.among.ensures ∙ c.if-among.false) (ap ended (sym r.owner) ∙ sym c.among-2.ensures ∙ c.if-not-among.true)

pub returns : goal.returns
returns c = let a = c.args in
    let store = c.store_value in let insert = c.insert in
    let ended = words_have a.ended.now in let undone = words_have a.undone.now in
    λ q r. undone_now ended q undone a.values.now
    (ap undone (sym r.entry) ∙ sym c.among.ensures ∙ c.if-among.false)
    (ap ended (sym r.owner) ∙ sym c.among-2.ensures ∙ c.if-not-among.false)
    _ _ a.read.before r.before
    (λ v p. store.ensures v p ∙ ap (λ (k : ℕ). value_section (put v k a.read.before)) r.entry)
    (λ k. insert.ensures.by_index k ∙ ap (λ (x : ℕ). eqb k x || undone k) r.entry)
