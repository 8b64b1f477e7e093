-- `words::among` meets its contract: the test is the definition. Assumes nothing.
use mathlib.Core.Path.{◌≡◌, refl}
use Prim.Native.Nat.{◌/◌}
use borrow.Author.Rules.{rules}
use Rattle.layout.specs.Codec.{unpack}
use Rattle.words.specs.Members.{words_have}
use Rattle.words.proofs.among.Goals as goal

pub returns : goal.returns
unfolding words_have unpack
returns c = let i : c.from-i.result ≡ c.args.c / 64 = search rules in rw i refl
