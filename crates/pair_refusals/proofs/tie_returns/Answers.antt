-- `pair_refusals::tie_returns` meets its contract: the numbers fit in bytes, and the section of ties is asked. Assumes nothing.
use mathlib.Core.Path.{sym}
use native.Mathlib.Omega.{arith}
use Rattle.rules.proofs.SoundParts.{ends_below_lem, inside_of}
use Rattle.layout.specs.Records.{ends_below}
use Rattle.layout.proofs.SoundCodec.{given_most}
use Rattle.layout.proofs.MemoryLaws.{bytes-sound, ties_known}
use Rattle.pair_refusals.proofs.tie_returns.Goals as goal

pub returns : goal.returns
unfolding ends_below
returns c = let bs = c.args.view.bytes.now in
    let k = bytes-sound bs c.args.view.sound in
    c.returns.ensures _ (sym c.ties-count.ensures.value) (ties_known bs c.args.view.sound) _ (ends_below_lem _ k.ties) (omega arith) (omega arith) c.requires.kind_value.0 k.no_cycle_lem

pub overflow_cast-kind : goal.overflow_cast-kind
overflow_cast-kind c = omega (arith, inside_of 1 3 _ c.requires.kind_value.0)

pub overflow_cast-leader : goal.overflow_cast-leader
overflow_cast-leader c = omega (arith, given_most _ (bytes-sound c.args.view.bytes.now c.args.view.sound))

pub overflow_cast-follower : goal.overflow_cast-follower
overflow_cast-follower c = omega (arith, given_most _ (bytes-sound c.args.view.bytes.now c.args.view.sound))
