-- `locks::hand_over` meets its contract: a change that holds nothing gives nothing; otherwise its lock is taken away and the greater set. Assumes nothing.
use mathlib.Core.Path.{◌≡◌, refl, sym, ◌∙◌, ap}
use Prim.Native.Nat.{suc, max}
use native.Mathlib.Omega.{arith}
use lib.Dec.{eqb}
use Rattle.rules.specs.Base.{put}
use Rattle.rules.specs.Effects.{move_held}
use Rattle.layout.specs.Codec.{lock_section}
use Rattle.locks.specs.Held.{Modes, changed_on}
use Rattle.locks.specs.Modes.{StandsFor}
use Rattle.locks.proofs.SectionLaws.{row_same}
use Rattle.locks.proofs.ModeLaws.{none_stands, max_stands}
use Rattle.locks.proofs.ChangeLaws.{on_entry, moved, moved_none}
use Rattle.locks.proofs.hand_over.Goals as goal

pub returns-then-is_none : goal.returns-then-is_none
unfolding move_held changed_on moved put Modes
returns-then-is_none c held modes e = let a = c.args in
    let stands = c.lock_of-given.ensures held modes e in
    let none : held a.entry a.from ≡ 0 = none_stands c.lock_of-given.result _ stands (modes a.entry a.from) c.if-is_none.ensures in
    e ∙ row_same held a.entry (moved a.from a.to (held a.entry)) (λ m k hm hk. ap (λ r. eqb (r k) (suc m)) (sym (moved_none a.from a.to (held a.entry) none)))
    ∙ ap lock_section (on_entry (moved a.from a.to) held a.entry)

pub returns : goal.returns
unfolding move_held changed_on moved put Modes
returns c held modes e = let a = c.args in
    let from = held a.entry a.from in
    let to = held a.entry a.to in
    let is : StandsFor c.max-most.result (max from to) =
    rw c.max-most.ensures (max_stands _ refl refl refl refl c.lock_of-given.result c.lock_of.result from to (c.lock_of-given.ensures held modes e) (c.lock_of.ensures held modes e) (modes a.entry a.from) (modes a.entry a.to)) in
    let l = c.with_mode-after.ensures (put (held a.entry) a.from 0) (max (held a.entry a.from) (held a.entry a.to)) is
    (c.with_mode.ensures (held a.entry) 0 ((λ e. absurd (omega arith)), (λ e. absurd (omega arith))) (c.load-before.ensures held e)) in
    c.store.ensures held (moved a.from a.to (held a.entry)) e l
    ∙ ap lock_section (on_entry (moved a.from a.to) held a.entry)
