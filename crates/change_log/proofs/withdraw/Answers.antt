-- `change_log::withdraw` meets its contract: of the records read, those left are closed up, and the values and the entries undone are what they make of them. Assumes nothing.
use mathlib.Core.Path.{◌≡◌, refl, ap, ◌∙◌}
use mathlib.Core.List.{List}
use mathlib.Core.Bool.{cond}
use Prim.Native.Nat.{◌+◌, ◌-◌, ◌*◌, ◌<◌}
use native.Mathlib.Omega.{arith}
use lib.ListN.{length, get_or, length-replicate}
use lib.Seq.{take_all}
use borrow.Author.Rules.{rules}
use Rattle.rules.specs.Window.{LogRecord}
use Rattle.rules.specs.Effects.{undo}
use Rattle.layout.specs.Codec.{no_record, value_section}
use Rattle.cells.specs.Part.{part, patch}
use Rattle.cells.proofs.PartLaws.{put_mid-patch}
use Rattle.words.specs.Members.{words_have}
use Rattle.sets.specs.Members.{members}
use Rattle.sets.proofs.MemberLaws.{blank_words}
use Rattle.change_log.proofs.DropLaws.{left_most}
use Rattle.change_log.proofs.WithdrawLaws.{withdrawing_none, next_record, withdrawing_turn, withdrawing_values, withdrawing_all, undo-nothing}
use Rattle.change_log.proofs.withdraw.Goals.{then-stays, else-stays}
use Rattle.change_log.proofs.withdraw.Goals as goal

pub loop-at-init : goal.loop-at-init
loop-at-init c = let s = c in let a = s.args in let ended = words_have a.ended.words in (
  search rules,
  λ l e q. withdrawing_none ended l _ a.log.now (blank_words _ refl) (omega arith) q,
  λ v l e f p q. p ∙ ap value_section (undo-nothing ended v),
)

pub loop-at-preserved : goal.loop-at-preserved
loop-at-preserved c = let a = c.args in
    let l = c.loop-at in
    let u = c.undo_record-stays in let k = c.if-stays in
    let ended = words_have a.ended.words in let undone = words_have l.undone in
    let place : k.left ≡ cond u.result (l.left + 1) l.left
    = elim k.branch [ then-stays w ↦ rw w.if-stays.true w.left-is | else-stays w ↦ rw w.if-stays.false w.left-is ] in
    let log : k.log ≡ cond u.result (patch l.log (l.left * 6) (part l.log (l.at * 6) 6)) l.log
    = elim k.branch [ then-stays w ↦ rw w.if-stays.true (w.log-is ∙ w.move_record.ensures) | else-stays w ↦ rw w.if-stays.false w.log-is ] in (
      left_most u.result l.at l.left k.left l.invariant.0 place,
      λ r e q. let m = l.invariant.1 r e q in
          let h : l.at < length r = omega arith in
          withdrawing_turn ended r undone l.log l.at l.left m h u.result (u.ensures (get_or r l.at no_record) (c.record_at-read.ensures (get_or r l.at no_record) (next_record ended r undone l.log l.at l.left m h)))
          k.left k.log (omega arith) place log,
      λ v r e f p q. let m = l.invariant.1 r e q in
          let h : l.at < length r = omega arith in
          withdrawing_values ended r undone l.log l.at l.left m h (u.ensures (get_or r l.at no_record) (c.record_at-read.ensures (get_or r l.at no_record) (next_record ended r undone l.log l.at l.left m h))) f v
          (l.invariant.2 v r e f p q),
    )

pub returns : goal.returns
unfolding members
returns c = let s = c in let a = s.args in let l = c.loop-at in
    let ended = words_have a.ended.words in
    let done : l.at ≡ a.count = omega arith in record {
      by_index = λ v r e f p q. (rw done at (l.invariant.2 v r e f p q)) ∙ ap (λ (t : List LogRecord). value_section (undo ended t v)) (take_all a.count r (omega (arith, e)));
      tabled = λ r e q. withdrawing_all ended r (words_have l.undone) l.log a.count l.left _ e s.requires.count_bound (rw done at (l.invariant.1 r e q))
          (put_mid-patch (l.left * 6) _ l.log _ _ (search rules) (length-replicate (a.count * 6 - l.left * 6) 0));
    }
