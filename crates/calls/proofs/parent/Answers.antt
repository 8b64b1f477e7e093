-- `calls::parent` meets its contract. Assumes nothing.
use mathlib.Core.Path.{refl, sym, ◌∙◌}
use Rattle.rules.specs.Calls.{Parent}
use Rattle.rules.specs.Events.{action_of, is_opening, is_open}
use Rattle.replies.proofs.GiveLaws.{unsound_back}
use Rattle.calls.proofs.LentLaws.{lent_room, lent_sound, looked_at}
use Rattle.calls.proofs.parent.Goals as goal

pub returns-then-not-sound_memory : goal.returns-then-not-sound_memory
returns-then-not-sound_memory c = rw c.from.ensures (unsound_back c.args.memory.now (Parent c.args.change) (sym c.sound_memory.ensures ∙ c.if-not-sound_memory.true) (unfold is_open action_of is_opening in refl))

pub unwrap-bytes-requires : goal.unwrap-bytes-requires
unwrap-bytes-requires c = c.first_chunk.ensures.variant.1 (lent_room c.args.memory.now (sym c.sound_memory.ensures ∙ c.if-not-sound_memory.false))

pub invariant_of-parent : goal.invariant_of-parent
invariant_of-parent c = record { sound = lent_sound c.args.memory.now (sym c.sound_memory.ensures ∙ c.if-not-sound_memory.false) (rw c.unwrap-bytes.ensures at c.first_chunk.ensures.cases).same }

pub returns : goal.returns
returns c = let s = c in rw c.from-2.ensures (looked_at s.args.memory.now (Parent s.args.change) (sym s.sound_memory.ensures ∙ s.if-not-sound_memory.false) _ (rw c.unwrap-bytes.ensures at c.first_chunk.ensures.cases).same c.parent.ensures)
