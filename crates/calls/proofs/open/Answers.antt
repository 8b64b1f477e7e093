-- `calls::open` meets its contract. Assumes nothing.
use mathlib.Core.Path.{refl, sym, ◌∙◌}
use native.Mathlib.Omega.{arith}
use Rattle.rules.proofs.SoundParts.{inside_of}
use Rattle.calls.proofs.OpenLaws.{open_short, open_refused, open_done}
use Rattle.calls.proofs.open.Goals as goal

pub returns-then-short : goal.returns-then-short
returns-then-short c = open_short c.args.memory.now c.args.entries c.if-short.true _ (rw c.from.ensures (refl, refl))

pub returns-then-outside : goal.returns-then-outside
returns-then-outside c = open_refused c.args.memory.now c.args.entries c.if-short.false (sym c.outside.ensures ∙ c.if-outside.true) _ (rw c.from-then-outside.ensures (refl, refl))

pub unwrap-w-requires : goal.unwrap-w-requires
unwrap-w-requires c = c.first_chunk_mut.ensures.variant.1 c.if-short.false

pub returns : goal.returns
returns c = open_done c.args.memory.now c.args.entries c.if-short.false (sym c.outside.ensures ∙ c.if-outside.false) _ c.make_fresh.ensures _ c.done.ensures

pub overflow_cast-entries : goal.overflow_cast-entries
overflow_cast-entries c = omega (arith, (inside_of 1 256 _ (sym c.outside.ensures ∙ c.if-outside.false)).1)
