-- `pair_refusals::permit_fits` meets its contract: the numbers fit in bytes, and the section of permits is asked. Assumes nothing.
use mathlib.Core.Path.{sym}
use native.Mathlib.Omega.{arith}
use Rattle.layout.proofs.SoundCodec.{entries_most, given_most}
use Rattle.layout.proofs.MemoryLaws.{bytes-sound, permits_known}
use Rattle.pair_refusals.proofs.permit_fits.Goals as goal

pub returns : goal.returns
returns c o = let bs = c.args.view.bytes.now in
    c.fits.ensures _ (sym c.permits-count.ensures.value) (permits_known bs c.args.view.sound) (bytes-sound bs c.args.view.sound).permit_order o

pub overflow_cast-giver : goal.overflow_cast-giver
overflow_cast-giver c = omega (arith, given_most _ (bytes-sound c.args.view.bytes.now c.args.view.sound))

pub overflow_cast-taker : goal.overflow_cast-taker
overflow_cast-taker c = omega (arith, given_most _ (bytes-sound c.args.view.bytes.now c.args.view.sound))

pub overflow_cast-entry : goal.overflow_cast-entry
overflow_cast-entry c = omega (arith, entries_most _ (bytes-sound c.args.view.bytes.now c.args.view.sound))
