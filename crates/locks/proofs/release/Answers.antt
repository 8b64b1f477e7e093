-- `locks::release` meets its contract: the entries passed have lost the set's locks. Assumes nothing.
use mathlib.Core.Path.{refl, ◌∙◌, ap}
use Prim.Native.Nat.{ℕ}
use native.Mathlib.Omega.{arith}
use borrow.Author.Rules.{rules}
use lib.ListN.{length}
use Rattle.rules.specs.Sets.{everything, put_all}
use Rattle.rules.specs.Effects.{released}
use Rattle.layout.proofs.LengthLaws.{length-locks}
use Rattle.sets.specs.Members.{members}
use Rattle.locks.specs.Held.{changed_on}
use Rattle.locks.proofs.ChangeLaws.{without_empty}
use Rattle.locks.proofs.TouchLaws.{stored_loaded}
use Rattle.locks.proofs.WalkLaws.{walked_none, walked_next, walked_all}
use Rattle.locks.proofs.release.Goals as goal

abbrev Any : (ℕ → ℕ → ℕ) → Type 0
Any held = Unit

pub returns-then-short : goal.returns-then-short
returns-then-short c held none e = absurd (omega (arith, ap length e, length-locks held))

pub loop-entry-init : goal.loop-entry-init
loop-entry-init c = let a = c.args in
    (refl, walked_none Any (put_all (members a.ended) 0) a.locks.now)

pub loop-entry-preserved : goal.loop-entry-preserved
loop-entry-preserved c = let l = c.loop-entry in
    let a = c.args in
    let call = c.release_touched in
    let says = stored_loaded (members a.ended) _ _ (search rules) (search rules) c.store.ensures in
    (call.auto.locks ∙ l.invariant.0, walked_next Any (put_all (members a.ended) 0) a.locks.now _ _ l.entry (λ held g. tt) (λ held g. call.ensures held says) l.invariant.1)

pub shape_of-locks : goal.shape_of-locks
shape_of-locks c = c.loop-entry.invariant.0

pub returns : goal.returns
unfolding released changed_on everything put_all
returns c held none e = let l = c.loop-entry in
    let a = c.args in
    walked_all Any (put_all (members a.ended) 0) a.locks.now _ l.entry a.entries (omega arith) (without_empty (members a.ended)) l.invariant.1 held tt none e
