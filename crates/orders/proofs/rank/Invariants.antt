-- `orders::rank` meets its contract: the ranks below k are in place, and as many are counted. Assumes nothing.
use Rattle.std.proofs.Common.{◌≡◌, ℕ, ◌<◌, length, get_or}
use Rattle.rules.specs.Base.{count_below}
use Rattle.sets.specs.Members.{members}
use Rattle.orders.proofs.rank.Given as goal

abbrev pub invariant-loop-k : goal.invariant-loop-k
invariant-loop-k l = record {
  counted : l.q ≡ count_below l.k (members l.firsts);
  long : length l.ranks ≡ 256;
  placed : (i : ℕ) → i < l.k → get_or l.ranks i 0 ≡ count_below i (members l.firsts);
}
