-- `soundness::sound` meets its contract. Assumes nothing.
use mathlib.Core.Path.{◌≡◌, sym, ◌∙◌}
use mathlib.Core.Bool.{true, false≢true}
use native.Mathlib.Omega.{arith}
use Rattle.rules.proofs.TurnLaws.{fails, passes}
use Rattle.rules.proofs.BaseLaws.{no_true, both_ways}
use Rattle.layout.specs.Codec.{changes_at, changes_size}
use Rattle.cells.specs.Part.{part}
use Rattle.cells.proofs.PartLaws.{length_part}
use Rattle.sets.specs.Members.{members}
use Rattle.soundness.proofs.Assembly.{head_known}
use Rattle.soundness.proofs.CheckLaws.{changes_asked, front_asked, back_asked, related_asked, passed}
use borrow.Author.Rules.{rules}
use borrow.Author.Tests.{not-true}
use Rattle.soundness.proofs.sound.Goals as goal

pub returns : goal.returns
unfolding part
returns c = let h = passes c.header.ensures c.if-not-header.false-raw in
    let a = c.read_figures-f.ensures h in
    let t = passes c.changes.ensures c.if-not-changes.false-raw in
    let v : c.front.result ≡ true = search rules in
    let e : c.back.result ≡ true = search rules in
    both_ways _ _
    (passed c.args.w.now (omega arith) h _ a (members c.live_set-live.result) c.live_set-live.ensures t _ c.front.ensures v _ c.back.ensures e _ c.related.ensures)
    (λ s. related_asked c.args.w.now c.read_figures-f.result c.read_figures-f.ensures s _ c.related.ensures)

pub returns-then-not-header : goal.returns-then-not-header
unfolding part
returns-then-not-header c = sym (no_true _ (λ s. fails c.header.ensures c.if-not-header.true-raw (head_known c.args.w.now s)))

pub changes-requires : goal.changes-requires
unfolding part
changes-requires c = let h = passes c.header.ensures c.if-not-header.false-raw in
    let a = c.read_figures-f.ensures h in record { changes_len = length_part c.args.w.now changes_at changes_size (omega arith); given_bound = omega (arith, a.given, h.given_most) }

pub returns-then-not-changes : goal.returns-then-not-changes
unfolding part
returns-then-not-changes c = sym (no_true _ (λ s. fails c.changes.ensures c.if-not-changes.true-raw (changes_asked c.args.w.now c.read_figures-f.result c.read_figures-f.ensures s)))

pub live_set-live-requires : goal.live_set-live-requires
unfolding part
live_set-live-requires c = let h = passes c.header.ensures c.if-not-header.false-raw in
    let a = c.read_figures-f.ensures h in
    record { changes_len = length_part c.args.w.now changes_at changes_size (omega arith); given_bound = omega (arith, a.given, h.given_most) }

pub front-requires : goal.front-requires
unfolding part
front-requires c = let h = passes c.header.ensures c.if-not-header.false-raw in
    let a = c.read_figures-f.ensures h in record { entries_bound = (omega (arith, a.entries, h.entries_most), omega (arith, a.waiters, h.waiters_most)) }

pub returns-then-not-front : goal.returns-then-not-front
unfolding part
returns-then-not-front c = sym (no_true _ (λ s. false≢true (sym (not-true _ c.if-not-front.true-raw) ∙ front_asked c.args.w.now c.read_figures-f.result c.read_figures-f.ensures s (members c.live_set-live.result) c.live_set-live.ensures _ c.front.ensures)))

pub back-requires : goal.back-requires
unfolding part
back-requires c = let h = passes c.header.ensures c.if-not-header.false-raw in
    let a = c.read_figures-f.ensures h in record { permits_bound = (omega (arith, a.permits, h.permits_most), omega (arith, a.ties, h.ties_most), omega (arith, a.records, h.records_most)) }

pub returns-then-not-back : goal.returns-then-not-back
unfolding part
returns-then-not-back c = sym (no_true _ (λ s. false≢true (sym (not-true _ c.if-not-back.true-raw) ∙ back_asked c.args.w.now c.read_figures-f.result c.read_figures-f.ensures s (members c.live_set-live.result) c.live_set-live.ensures _ c.back.ensures)))

pub related-requires : goal.related-requires
unfolding part
related-requires c = let h = passes c.header.ensures c.if-not-header.false-raw in
    let a = c.read_figures-f.ensures h in record { entries_bound = (omega (arith, a.entries, h.entries_most), omega (arith, a.permits, h.permits_most), omega (arith, a.ties, h.ties_most)) }
