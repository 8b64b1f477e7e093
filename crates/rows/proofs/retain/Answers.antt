-- `rows::retain` meets its contract: i records were read, and those that stay are closed up. Assumes nothing.
use mathlib.Core.Path.{◌≡◌, sym, ap, ◌∙◌}
use mathlib.Core.List.{List, ◌++◌}
use Prim.Native.Nat.{ℕ, ◌+◌, ◌-◌, ◌*◌, ◌≤◌}
use native.Mathlib.Nat.{suc-mul, mul-le-mul_right}
use native.Mathlib.Numerals.{add-one}
use native.Mathlib.Omega.{arith}
use borrow.Author.Rules.{rules}
use borrow.Rule.Slice.PartMut.{put_mid}
use lib.ListN.{length, take, drop, replicate, length-replicate, length-drop}
use lib.Seq.{length-take-le}
use Rattle.std.proofs.lemmas.Fn.{called_at}
use Rattle.std.specs.Fn.{CalledAt}
use Rattle.cells.specs.Part.{part, patch}
use Rattle.rows.proofs.RetainLaws.{Retaining, retaining_gone, retaining_stays, retaining_all}
use Rattle.rows.proofs.retain.Goals.{then-stays, else-stays}
use Rattle.rows.proofs.retain.Goals as goal

pub loop-i-preserved : goal.loop-i-preserved
unfolding part
loop-i-preserved g c =
    let a = c.args in
    let l = c.loop-i in
    let w = g.row.N in
    let R = CalledAt g.F.FnMut in
    let ends : (l.i + 1) * w ≡ l.i * w + w = ap (λ (d : ℕ). d * w) (add-one l.i) ∙ suc-mul l.i w in
    let within : (l.i + 1) * w ≤ a.n * w = mul-le-mul_right w (omega arith) in
    let room : l.i * w + w ≤ length l.s = omega (arith, l.invariant.len, c.requires.n_in_bounds) in
    let here : take (l.i * w + w - l.i * w) (drop (l.i * w) l.s) ≡ part l.s (l.i * w) w = ap (λ (k : ℕ). take k (drop (l.i * w) l.s)) (omega arith) in
    elim c.if-stays.branch [
      | then-stays b ↦ rw (b.s-is, b.kept-is, b.move_record.ensures) (retaining_stays R a.stays w a.n a.s.now l.s l.stays l.i l.kept l.invariant room (omega arith) c.stays.new.self _ here (called_at g.F.FnMut c.stays.ensures b.if-stays.true))
      | else-stays b ↦ rw (b.s-is, b.kept-is) (retaining_gone R a.stays w a.n a.s.now l.s l.stays l.i l.kept l.invariant room (omega arith) c.stays.new.self _ here (called_at g.F.FnMut c.stays.ensures b.if-stays.false))
    ]

pub returns-clause-retained : goal.returns-clause-retained
unfolding patch
returns-clause-retained g c =
    let a = c.args in
    let l = c.loop-i in
    let w = g.row.N in
    let done : l.i ≡ a.n = omega arith in
    let m : Retaining (CalledAt g.F.FnMut) a.stays w a.n a.s.now l.s l.stays a.n l.kept = rw done at l.invariant in
    let free : ℕ = a.n * w - l.kept * w in
    let lower : l.kept * w ≤ a.n * w = mul-le-mul_right w m.few in
    let size : length (take free (drop (l.kept * w) l.s)) ≡ free = length-take-le free (drop (l.kept * w) l.s) (simp length-drop (omega (arith, m.len, c.requires.n_in_bounds))) in
    let zeros : c.fill.new.self ≡ replicate free 0 = c.fill.ensures.after (λ y e. search rules) ∙ ap (λ (k : ℕ). replicate k 0) size in
    retaining_all (CalledAt g.F.FnMut) a.stays w a.n a.s.now l.s l.stays l.kept m c.requires.n_in_bounds _
    (ap (λ (t : List ℕ). put_mid (l.kept * w) free l.s t) zeros ∙ ap (λ (k : ℕ). take (l.kept * w) l.s ++ (replicate free 0 ++ drop k (drop (l.kept * w) l.s))) (sym (length-replicate {A = ℕ} free 0)))
