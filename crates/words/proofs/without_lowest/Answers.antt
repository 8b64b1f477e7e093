-- `words::without_lowest` meets its contract: the bit that is taken away is the lowest. Assumes nothing.
use lib.Count.{count_trailing_zeros}
use Rattle.words.proofs.BitLaws.{word_without}
use Rattle.words.proofs.without_lowest.Goals as goal

pub returns : goal.returns
returns c j h = word_without c.args.w (count_trailing_zeros 64 c.args.w) j h
