-- `many_permits::named` meets its contract: after some of the blocks, those whom their permits name beside the writer. Assumes nothing.
use mathlib.Core.Path.{◌≡◌, ap, ◌∙◌}
use mathlib.Core.Bool.{false}
use Prim.Native.Nat.{ℕ, ◌+◌, ◌*◌, ◌/◌}
use native.Mathlib.Omega.{arith}
use lib.ListN.{length, drop}
use Rattle.sets.specs.Members.{members}
use Rattle.few_permits.specs.Rows.{permit_row}
use Rattle.many_permits.specs.Named.{names}
use Rattle.many_permits.proofs.BlockLaws.{any_none, chunk_next, chunks_done}
use Rattle.many_permits.proofs.named.Goals as goal

pub loop-block-init : goal.loop-block-init
loop-block-init c = let a = c.args in
    let h = a.holders.now in
    λ k. c.empty-s.ensures k ∙ any_none (permit_row a.permits.now) (names (members h.readers) (members h.writers) a.writer k)

pub loop-block-preserved : goal.loop-block-preserved
loop-block-preserved c = let a = c.args in
    let h = a.holders.now in
    let l = c.loop-block in
    let i = l.block-index in
    λ k. chunk_next a.permits.now (names (members h.readers) (members h.writers) a.writer k) false _ _ 16 (length a.permits.now / 16) i ((i + 1) * 16) c.as_chunks.result.0.now c.as_chunks.ensures.front (omega arith) (omega arith) (omega arith)
    (l.invariant k) (c.add_block-s.ensures k)

pub returns : goal.returns
returns c k = let a = c.args in
    let h = a.holders.now in
    let l = c.loop-block in
    let i = l.block-index in
    let last = c.as_chunks.result.1.now in
    let left : last ≡ drop (i * 16) a.permits.now = c.as_chunks.ensures.back ∙ ap (λ (n : ℕ). drop n a.permits.now) (omega arith) in
    chunks_done a.permits.now (names (members h.readers) (members h.writers) a.writer k) false _ _ (i * 16) last left (omega arith) (l.invariant k) (c.add_each_named.ensures k)
