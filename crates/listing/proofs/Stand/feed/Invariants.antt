-- `listing::Stand::feed` meets its contract: so many bytes of the piece have been fed. Assumes nothing.
use mathlib.Core.Path.{◌≡◌}
use Prim.Native.Nat.{◌+◌, ◌*◌, ◌≤◌}
use lib.ListN.{length, take}
use Rattle.listing.specs.Feed.{fed}
use Rattle.listing.specs.Stands.{standing}
use Rattle.listing.proofs.Stand.feed.Given as goal

abbrev pub invariant-loop-byte : goal.invariant-loop-byte
invariant-loop-byte l = record {
  held : l.self.held ≤ 65;
  used : l.self.used ≤ l.initial.self.used + 64 * l.byte-index;
  line-long : length l.line ≡ length l.initial.line;
  memory-long : length l.memory ≡ length l.initial.memory;
  out-long : length l.out ≡ length l.initial.out;
  state : standing l.self l.line l.memory l.out ≡ fed (standing l.initial.self l.initial.line l.initial.memory l.initial.out) (take l.byte-index l.input);
}
