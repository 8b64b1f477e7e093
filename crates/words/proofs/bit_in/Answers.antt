-- `words::bit_in` meets its contract: a word of the set of c alone is its bit or 0. Assumes nothing.
use Rattle.words.proofs.BitLaws.{bit-here, bit_elsewhere}
use Rattle.words.proofs.bit_in.Goals as goal

pub returns-then-c-word : goal.returns-then-c-word
returns-then-c-word c = λ j h. bit-here c.args.c c.args.word j c.if-c-word.true h

pub returns : goal.returns
returns c = λ j h. bit_elsewhere c.args.c c.args.word j c.if-c-word.false h
