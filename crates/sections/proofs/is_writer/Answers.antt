-- `sections::is_writer` meets its contract. Assumes nothing.
use mathlib.Core.Path.{◌≡◌, refl}
use Prim.Native.Nat.{◌/◌}
use borrow.Author.Rules.{rules}
use Rattle.layout.specs.Codec.{unpack}
use Rattle.sections.specs.Fits.{writes}
use Rattle.sections.proofs.is_writer.Goals as goal

pub returns : goal.returns
unfolding writes unpack
returns c = let a = c.args in
    let entry : c.from.result ≡ a.e = search rules in
    let byte : c.from-2.result ≡ a.c / 8 = search rules in
    rw (entry, byte) refl
