-- `sections::header` meets its contract: each figure read is the one that a sound header has. Assumes nothing.
use mathlib.Core.Path.{◌≡◌, ◌∙◌, sym}
use mathlib.Core.Bool.{◌&&◌, true}
use native.Mathlib.Omega.{arith}
use borrow.Author.Tests.{le-leb, leb-true}
use lib.Dec.{leb}
use Rattle.std.proofs.lemmas.Bool.Decides.{nat_tests}
use Rattle.rules.proofs.BaseLaws.{and_both, and_left, and_right}
use Rattle.rules.proofs.TurnLaws.{refused, failed, held}
use Rattle.places.proofs.TableLaws.{figure_read}
use Rattle.sections.proofs.HeadLaws.{head_zeros, head_sound}
use Rattle.sections.proofs.header.Goals as goal

pub returns-then-not-contains : goal.returns-then-not-contains
returns-then-not-contains c = let bs = c.args.head.now in
    let n = c.figure.result in
    let i : c.contains.result ≡ leb 1 n && leb n 256 = grind (arith, nat_tests) in
    refused (λ s.
    let f = figure_read bs _ 0 s.bytes (omega arith) (omega (arith, s.entries_most)) in
    failed i c.if-not-contains.true-raw (and_both _ _ (le-leb 1 n (omega (arith, c.figure.ensures, f, s.some))) (le-leb n 256 (omega (arith, c.figure.ensures, f, s.entries_most)))))

pub returns-then-figure-gt-MOST : goal.returns-then-figure-gt-MOST
returns-then-figure-gt-MOST c = let bs = c.args.head.now in
    refused (λ s. omega (arith, c.figure-2.ensures, figure_read bs _ 1 s.bytes (omega arith) (omega (arith, s.given_most)), s.given_most))

pub returns-then-figure-gt-MOST-2 : goal.returns-then-figure-gt-MOST-2
returns-then-figure-gt-MOST-2 c = let bs = c.args.head.now in
    refused (λ s. omega (arith, c.figure-3.ensures, figure_read bs _ 2 s.bytes (omega arith) (omega (arith, s.records_most)), s.records_most))

pub returns-then-figure-gt-MOST-3 : goal.returns-then-figure-gt-MOST-3
returns-then-figure-gt-MOST-3 c = let bs = c.args.head.now in
    refused (λ s. omega (arith, c.figure-4.ensures, figure_read bs _ 3 s.bytes (omega arith) (omega (arith, s.permits_most)), s.permits_most))

pub returns-then-figure-gt-MOST-4 : goal.returns-then-figure-gt-MOST-4
returns-then-figure-gt-MOST-4 c = let bs = c.args.head.now in
    refused (λ s. omega (arith, c.figure-5.ensures, figure_read bs _ 4 s.bytes (omega arith) (omega (arith, s.ties_most)), s.ties_most))

pub returns-then-figure-gt-MOST-5 : goal.returns-then-figure-gt-MOST-5
returns-then-figure-gt-MOST-5 c = let bs = c.args.head.now in
    refused (λ s. omega (arith, c.figure-6.ensures, figure_read bs _ 5 s.bytes (omega arith) (omega (arith, s.waiters_most)), s.waiters_most))

pub returns : goal.returns
returns c = let bs = c.args.head.now in
    let size = c.requires in
    let n = c.figure.result in
    let i : c.contains.result ≡ leb 1 n && leb n 256 = grind (arith, nat_tests) in
    let within : leb 1 n && leb n 256 ≡ true = held i c.if-not-contains.false-raw in (
      λ e. head_sound bs size (λ i. (c.type_inv.head i).fits) (sym c.all_zero.ensures ∙ e)
          (omega (arith, c.figure.ensures, leb-true 1 n (and_left (leb 1 n) (leb n 256) within)))
          (omega (arith, c.figure.ensures, leb-true n 256 (and_right (leb 1 n) (leb n 256) within)))
          (omega (arith, c.figure-2.ensures, c.if-figure-gt-MOST.false))
          (omega (arith, c.figure-3.ensures, c.if-figure-gt-MOST-2.false))
          (omega (arith, c.figure-4.ensures, c.if-figure-gt-MOST-3.false))
          (omega (arith, c.figure-5.ensures, c.if-figure-gt-MOST-4.false))
          (omega (arith, c.figure-6.ensures, c.if-figure-gt-MOST-5.false)),
      λ s. c.all_zero.ensures ∙ head_zeros bs s,
    )
