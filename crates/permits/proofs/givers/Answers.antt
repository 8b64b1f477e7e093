-- `permits::givers` meets its contract: the members and the givers to come are the givers. Assumes nothing.
use mathlib.Core.Path.{◌≡◌, sym, ap, ◌∙◌}
use mathlib.Core.Bool.{Bool, ◌&&◌, ◌||◌}
use Prim.Native.Nat.{◌+◌, ◌-◌, ◌<◌}
use native.Mathlib.Omega.{arith}
use lib.Dec.{eqb}
use Rattle.layout.proofs.SectionLaws.{Bytes}
use Rattle.sets.specs.Members.{members}
use Rattle.rows.specs.Rows.{Row, row_of}
use Rattle.permits.specs.PermitRows.{serves}
use Rattle.permits.proofs.PermitLaws.{permits-rising}
use Rattle.permits.proofs.CutLaws.{to_come, from_row}
use Rattle.permits.proofs.GiverLaws.{ahead, walk_from, walk_entry, walk_next, walk_stop, walk_end, givers_permitted}
use Rattle.permits.proofs.givers.Goals as goal

pub loop-on-init : goal.loop-on-init
loop-on-init c = let a = c.args in
    let l = a.permits.now in
    let f = c.place-from in
    let b : Bytes l = λ j. (c.type_inv.permits j).fits in
    let here : f.result + 0 ≡ f.result = omega arith in
    rw here (λ rise. (
      walk_entry l a.count a.taker a.entry a.mode b f.result (f.ensures.key_place rise),
      λ k. ap (λ (x : Bool). x || ahead l a.count a.taker a.entry a.mode f.result k) (c.empty-set.ensures k) ∙ walk_from l a.count a.taker a.entry a.mode f.result f.ensures.upper_bound (f.ensures.key_place rise) k,
    ))

pub loop-on-preserved : goal.loop-on-preserved
unfolding serves row_of
loop-on-preserved c = let a = c.args in
    let l = a.permits.now in
    let at = c.place-from.result in
    let j = c.loop-on.on-index in
    let cut = c.as_chunks in
    let inside : j < a.count - at = omega (arith, to_come l cut.result.0.now cut.ensures.front a.count at (omega arith) cut.ensures.front_len c.place-from.ensures.upper_bound) in
    let e = from_row l cut.result.0.now cut.ensures.front a.count at (omega arith) j inside in
    let next : at + (j + 1) ≡ at + j + 1 = omega arith in
    rw next (λ rise. (
      λ i h g. (c.loop-on.invariant rise).0 i (omega arith) g,
      λ k. walk_next l a.count a.taker a.entry a.mode (at + j) (omega arith) (sym (ap (λ (r : Row). r.k1) e) ∙ c.if-other.false) k (members c.loop-on.set k) (members c.add_if-set.result k) _ ((c.loop-on.invariant rise).1 k)
          ((rw c.contains.ensures at (c.add_if-set.ensures k)) ∙ ap (λ (r : Row). members c.loop-on.set k || (eqb r.k2 k && serves a.taker a.mode r)) e),
    ))

pub returns-after-loop-on : goal.returns-after-loop-on
returns-after-loop-on c ps len is rise k = let s = c in
    let a = s.args in
    let l = a.permits.now in
    let at = c.place-from.result in
    let j = c.loop-on.on-index in
    let cut = c.as_chunks in
    let up = permits-rising ps a.count l len is s.requires.count_bound rise in
    let whole = to_come l cut.result.0.now cut.ensures.front a.count at (omega arith) cut.ensures.front_len c.place-from.ensures.upper_bound in
    givers_permitted ps a.count l len is s.requires.count_bound k a.taker a.entry a.mode (members c.loop-on.set k)
    (walk_end l a.count a.taker a.entry a.mode (at + j) (omega (arith, whole)) k (members c.loop-on.set k) _ ((c.loop-on.invariant up).1 k))

pub returns-then-other : goal.returns-then-other
unfolding row_of
returns-then-other c ps len is rise k = let s = c in
    let a = s.args in
    let l = a.permits.now in
    let at = c.place-from.result in
    let j = c.loop-on.on-index in
    let cut = c.as_chunks in
    let inside : j < a.count - at = omega (arith, to_come l cut.result.0.now cut.ensures.front a.count at (omega arith) cut.ensures.front_len c.place-from.ensures.upper_bound) in
    let e = from_row l cut.result.0.now cut.ensures.front a.count at (omega arith) j inside in
    let up = permits-rising ps a.count l len is s.requires.count_bound rise in
    givers_permitted ps a.count l len is s.requires.count_bound k a.taker a.entry a.mode (members c.loop-on.set k)
    (walk_stop l a.count a.taker a.entry a.mode (λ i. (c.type_inv.permits i).fits) up (at + j) (omega arith) (c.loop-on.invariant up).0 (λ q. c.if-other.true (ap (λ (r : Row). r.k1) e ∙ q)) k (members c.loop-on.set k) _ ((c.loop-on.invariant up).1 k))
