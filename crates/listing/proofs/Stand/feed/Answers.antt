-- `listing::Stand::feed` meets its contract: so many bytes of the piece have been fed. Assumes nothing.
use mathlib.Core.Path.{refl, ◌∙◌}
use native.Mathlib.Omega.{arith}
use Rattle.listing.specs.Feed.{fed}
use Rattle.listing.specs.Stands.{standing}
use Rattle.listing.proofs.StandLaws.{place-at, place_taken, fed-next, fed-all}
use Rattle.listing.proofs.Stand.feed.Goals as goal

pub loop-byte-init : goal.loop-byte-init
unfolding fed
loop-byte-init c = record { held = c.requires.held_bound; used = omega arith; line-long = refl; memory-long = refl; out-long = refl; state = refl }

pub feed_byte-requires : goal.feed_byte-requires
feed_byte-requires c =
    let a = c.args in
    let l = c.loop-byte in
    let i = l.invariant in
    let p = place_taken (standing l.self l.line l.memory l.out) (standing a.self.now a.line.now a.memory.now a.out.now) a.input.now l.byte-index (omega arith) i.state in
    record {
      line_len = i.line-long ∙ c.requires.line_len;
      held_bound = i.held;
      used_in_bounds = omega (arith, i.out-long, i.used, c.loop-byte-test, c.requires.input_in_bounds);
      place_bound = omega (arith, p, c.loop-byte-test, c.requires.input_bound);
    }

pub loop-byte-preserved : goal.loop-byte-preserved
loop-byte-preserved c =
    let a = c.args in
    let l = c.loop-byte in
    let i = l.invariant in
    let f = c.feed_byte in
    record {
      held = f.ensures.held_bound_2;
      used = omega (arith, i.used, f.ensures.used_bound);
      line-long = f.auto.line ∙ i.line-long;
      memory-long = f.auto.memory ∙ i.memory-long;
      out-long = f.auto.out ∙ i.out-long;
      state = fed-next (standing a.self.now a.line.now a.memory.now a.out.now) (standing l.self l.line l.memory l.out) _ a.input.now l.byte-index (omega arith) i.state f.ensures.out_after;
    }

pub returns : goal.returns
returns c =
    let a = c.args in
    let l = c.loop-byte in
    let s = standing l.self l.line l.memory l.out in
    let t = standing a.self.now a.line.now a.memory.now a.out.now in
    let e = fed-all t s a.input.now l.byte-index (omega arith) l.invariant.state in
    record { held_bound_2 = l.invariant.held; used_bound = omega (arith, l.invariant.used); place_bound = place-at s t a.input.now e; out_after = e }
