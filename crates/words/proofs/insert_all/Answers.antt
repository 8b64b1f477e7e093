-- `words::insert_all` meets its contract: the words are joined by `|`, one after the other. Assumes nothing.
use native.Mathlib.Omega.{arith}
use Rattle.words.proofs.BitLaws.{insert_words}
use Rattle.words.proofs.insert_all.Goals as goal

pub returns : goal.returns
returns c = let l = c.loop-i in record {
  by_index = insert_words c.args.words.now c.args.others.now l.words c.told-words c.told-others l.invariant.0 (λ i h. l.invariant.1 i (omega arith));
}
