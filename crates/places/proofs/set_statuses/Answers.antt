-- `places::set_statuses` meets its contract: the members that are not left any more have the status. The measure is what is left of 256. Assumes nothing.
use mathlib.Core.Path.{refl, sym, ap, ◌∙◌}
use Prim.Native.Nat.{ℕ}
use native.Mathlib.Omega.{arith}
use borrow.Author.Rules.{rules}
use Rattle.rules.specs.Base.{lowest_below}
use Rattle.layout.specs.Codec.{change_section}
use Rattle.sets.specs.Members.{members}
use Rattle.sets.proofs.WalkLaws.{lowest_of, rest_without, walk_less}
use Rattle.places.proofs.StatusLaws.{Walk, statuses_none, walk_next, statuses_turn, statuses-all}
use Rattle.places.proofs.set_statuses.Goals as goal

pub loop-c-init : goal.loop-c-init
loop-c-init c = let a = c.args in (
  search rules,
  λ k l. l,
  λ st pa e. e ∙ ap (λ (f : ℕ → ℕ). change_section f pa) (sym (statuses_none (members a.ended) a.s st)),
)

pub loop-c-smaller : goal.loop-c-smaller
loop-c-smaller c = let left = members c.loop-c.left in let left' = members c.pop_first.new.self in
    rw (← c.in-Some.ensures.lowest)
    (walk_less left c.in-Some.c (lowest_of left c.in-Some.c c.in-Some.ensures.lowest) (omega arith) left' c.in-Some.ensures.rest (lowest_below 256 left') refl)

pub loop-c-preserved : goal.loop-c-preserved
loop-c-preserved c = let a = c.args in
    let l = c.loop-c in
    let left' = members c.pop_first.new.self in
    let w : Walk (members a.ended) (members l.left) c.in-Some.c = record { lowest = lowest_of (members l.left) c.in-Some.c c.in-Some.ensures.lowest; inside = l.invariant.1 } in
    let without = rest_without (members l.left) c.in-Some.c w.lowest left' c.in-Some.ensures.rest in
    let next = walk_next (members a.ended) (members l.left) c.in-Some.c w left' without (lowest_below 256 left') (lowest_of left' (lowest_below 256 left') refl) in (
      search rules,
      next.inside,
      λ st pa e. statuses_turn (members a.ended) (members l.left) c.in-Some.c w left' without (omega arith) a.s l.changes _ st pa (l.invariant.2 st pa e) c.store_status.ensures,
    )

pub returns : goal.returns
returns c = let a = c.args in let l = c.loop-c in
    let w : Walk (members a.ended) (members l.left) 256 = record { lowest = lowest_of (members l.left) 256 c.in_default.ensures.lowest; inside = l.invariant.1 } in
    λ st pa e. l.invariant.2 st pa e ∙ statuses-all (members a.ended) (members l.left) 256 w (omega arith) a.s st pa
