-- `many_permits::add_parts` meets its contract: after some of the parts, those whom their permits name beside the writer. Assumes nothing.
use mathlib.Core.Path.{◌≡◌, sym, ap, ◌∙◌}
use mathlib.Core.Bool.{Bool, ◌||◌, or-false}
use Prim.Native.Nat.{ℕ, ◌+◌, ◌*◌, ◌/◌}
use native.Mathlib.Omega.{arith}
use lib.ListN.{length, drop}
use Rattle.rules.specs.Window.{PermitRecord}
use Rattle.sets.specs.Members.{members}
use Rattle.few_permits.specs.Rows.{permit_row}
use Rattle.many_permits.specs.Named.{names}
use Rattle.many_permits.proofs.BlockLaws.{any_none, chunk_next, chunks_done}
use Rattle.many_permits.proofs.add_parts.Goals as goal

pub loop-part-init : goal.loop-part-init
loop-part-init c = let a = c.args in
    let h = a.holders.now in
    λ k. let p : PermitRecord → Bool = names (members h.readers) (members h.writers) a.writer k in
    sym (or-false (members a.s k)) ∙ ap (λ (b : Bool). members a.s k || b) (any_none (permit_row a.block.now) p)

pub loop-part-preserved : goal.loop-part-preserved
loop-part-preserved c = let a = c.args in
    let h = a.holders.now in
    let l = c.loop-part in
    let i = l.part-index in
    λ k. chunk_next a.block.now (names (members h.readers) (members h.writers) a.writer k) (members a.s k) _ _ 4 (length a.block.now / 4) i ((i + 1) * 4) c.as_chunks.result.0.now c.as_chunks.ensures.front (omega arith) (omega arith) (omega arith)
    (l.invariant k) (c.add_part-s.ensures k)

pub returns : goal.returns
returns c k = let a = c.args in
    let h = a.holders.now in
    let l = c.loop-part in
    let i = l.part-index in
    let last = c.as_chunks.result.1.now in
    let left : last ≡ drop (i * 4) a.block.now = c.as_chunks.ensures.back ∙ ap (λ (n : ℕ). drop n a.block.now) (omega arith) in
    chunks_done a.block.now (names (members h.readers) (members h.writers) a.writer k) (members a.s k) _ _ (i * 4) last left (omega arith) (l.invariant k) (c.add_each_named.ensures k)
