-- `calls::depend` meets its contract. Assumes nothing.
use mathlib.Core.Path.{refl, sym, ◌∙◌}
use Rattle.rules.specs.Calls.{Depend}
use Rattle.rules.specs.Events.{action_of, is_opening, is_open}
use Rattle.replies.proofs.GiveLaws.{unsound_back}
use Rattle.calls.proofs.LentLaws.{lent_room, lent_sound, stepped}
use Rattle.calls.proofs.depend.Goals as goal

pub returns-then-not-sound_memory : goal.returns-then-not-sound_memory
returns-then-not-sound_memory c = rw c.from.ensures (unsound_back c.args.memory.now (Depend c.args.kind c.args.leader c.args.follower) (sym c.sound_memory.ensures ∙ c.if-not-sound_memory.true) (unfold is_open action_of is_opening in refl))

pub unwrap-w-requires : goal.unwrap-w-requires
unwrap-w-requires c = c.first_chunk_mut.ensures.variant.1 (lent_room c.args.memory.now (sym c.sound_memory.ensures ∙ c.if-not-sound_memory.false))

pub depend-requires : goal.depend-requires
depend-requires c = lent_sound c.args.memory.now (sym c.sound_memory.ensures ∙ c.if-not-sound_memory.false) (rw c.unwrap-w.ensures at c.first_chunk_mut.ensures.cases).same

pub returns : goal.returns
returns c = let s = c in rw c.from-2.ensures (stepped s.args.memory.now (Depend s.args.kind s.args.leader s.args.follower) (sym s.sound_memory.ensures ∙ s.if-not-sound_memory.false) _ (rw c.unwrap-w.ensures at c.first_chunk_mut.ensures.cases).same _ _ c.depend.ensures)
