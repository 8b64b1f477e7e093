-- `sections::changes` meets its contract. Assumes nothing.
use mathlib.Core.Path.{◌∙◌, sym}
use Rattle.rules.proofs.TurnLaws.{failed, held, refused}
use Rattle.sections.proofs.ChangeLaws.{changes-sound}
use Rattle.sections.proofs.changes.Goals as goal

pub returns-then-not-all_zero : goal.returns-then-not-all_zero
returns-then-not-all_zero c = let a = c.args in let p = c.requires in refused (λ s. failed c.all_zero.ensures c.if-not-all_zero.true-raw ((changes-sound a.changes.now p.changes_len a.given p.given_bound).1 s).first)

pub returns-then-not-given_changes : goal.returns-then-not-given_changes
returns-then-not-given_changes c = let a = c.args in let p = c.requires in refused (λ s. failed c.given_changes.ensures c.if-not-given_changes.true-raw ((changes-sound a.changes.now p.changes_len a.given p.given_bound).1 s).fits)

pub returns : goal.returns
returns c = let a = c.args in
    let p = c.requires in
    let s = changes-sound a.changes.now p.changes_len a.given p.given_bound in (
      λ e. s.0 (record {
        first = held c.all_zero.ensures c.if-not-all_zero.false-raw;
        fits = held c.given_changes.ensures c.if-not-given_changes.false-raw;
        rest = sym c.all_zero-2.ensures ∙ e;
      }),
      λ v. c.all_zero-2.ensures ∙ (s.1 v).rest,
    )
