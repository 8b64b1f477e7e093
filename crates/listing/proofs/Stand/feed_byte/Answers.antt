-- `listing::Stand::feed_byte` meets its contract. Assumes nothing.
use native.Mathlib.Omega.{arith}
use Rattle.listing.specs.Stands.{standing}
use Rattle.listing.proofs.StandLaws.{kept, enough, byte_newline, byte_more}
use Rattle.listing.proofs.Stand.feed_byte.Goals as goal

pub returns-then-byte-eq10-clause-out_after : goal.returns-then-byte-eq10-clause-out_after
returns-then-byte-eq10-clause-out_after c =
    let a = c.args in byte_newline _ (standing a.self.now a.line.now a.memory.now a.out.now) a.byte c.if-byte-eq10.true c.end_line.ensures.out_after

pub returns-then-self-lt-KEPT-clause-out_after : goal.returns-then-self-lt-KEPT-clause-out_after
returns-then-self-lt-KEPT-clause-out_after c =
    let a = c.args in let s = a.self.now in
    byte_more (standing s a.line.now a.memory.now a.out.now) a.byte _ c.if-byte-eq10.false (kept a.line.now s.held a.byte (omega (arith, c.if-self-lt-KEPT.true)) c.requires.line_len)

pub returns-else-self-lt-KEPT-clause-out_after : goal.returns-else-self-lt-KEPT-clause-out_after
returns-else-self-lt-KEPT-clause-out_after c =
    let a = c.args in let s = a.self.now in
    byte_more (standing s a.line.now a.memory.now a.out.now) a.byte _ c.if-byte-eq10.false (enough a.line.now s.held a.byte c.requires.held_bound (λ h. omega (arith, c.if-self-lt-KEPT.false)) c.requires.line_len)
