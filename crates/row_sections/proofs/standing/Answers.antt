-- `row_sections::standing` meets its contract: the places passed fit, and the next key has its bound. Assumes nothing.
use mathlib.Core.Path.{refl}
use native.Mathlib.Omega.{arith}
use Rattle.rules.proofs.TurnLaws.{turns_done}
use Rattle.row_sections.proofs.RiseLaws.{rank_small, none_risen, row-fails, row_low, row_rises}
use Rattle.row_sections.proofs.standing.Goals as goal

pub loop-j-init : goal.loop-j-init
loop-j-init g c = λ own told. none_risen _ _

pub returns-then-not-fits : goal.returns-then-not-fits
returns-then-not-fits g c = λ own told. let j = c.loop-j.j in
    row-fails _ _ j _ _ (told j _ (omega arith) c.fits.ensures) refl _ (omega arith) c.if-not-fits.true-raw

pub returns-then-key-next : goal.returns-then-key-next
returns-then-key-next g c = λ own told. let j = c.loop-j.j in
    row_low _ _ j _ _ (told j _ (omega arith) c.fits.ensures) refl _ _ _ (omega arith) (c.loop-j.invariant own told) c.key_at-key.ensures c.if-key-next.true

pub overflow_add-next : goal.overflow_add-next
overflow_add-next g c = omega (arith, c.key_at-key.ensures, rank_small c.args.rows.now (λ i. (c.type_inv.rows i).fits) c.loop-j.j)

pub loop-j-preserved : goal.loop-j-preserved
loop-j-preserved g c = λ own told. let j = c.loop-j.j in
    row_rises _ _ _ _ _ (told j _ (omega arith) c.fits.ensures) refl _ _ (c.loop-j.invariant own told) c.if-not-fits.false-raw c.key_at-key.ensures c.if-key-next.false

pub returns : goal.returns
returns g c = λ own told. turns_done _ _ _ (c.loop-j.invariant own told).passed (omega arith)
