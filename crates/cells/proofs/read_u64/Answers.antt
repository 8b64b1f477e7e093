-- `cells::read_u64` meets its contract: the digits of each byte are the number's. Assumes nothing.
use mathlib.Core.Path.{◌≡◌, ◌∙◌, ap}
use Prim.Native.Nat.{ℕ}
use native.Mathlib.Omega.{arith}
use borrow.Author.Rules.{rules}
use Rattle.layout.specs.Codec.{unpack}
use Rattle.cells.specs.Part.{part}
use Rattle.cells.specs.Num.{num}
use Rattle.cells.proofs.NumLaws.{part8}
use Rattle.cells.proofs.WordLaws.{unpack_part}
use Rattle.cells.proofs.read_u64.Goals as goal

pub returns : goal.returns
unfolding num
returns c = let a = c.args in
    let number : c.from_le_bytes.result ≡ num (part a.s.now a.at 8) =
    c.from_le_bytes.ensures ∙ rw (c.bytes_at-bytes.ensures, part8 a.s.now a.at (search rules)) (omega arith) in
    λ k h. ap (λ (w : ℕ). unpack w k) number ∙ unpack_part a.s.now (λ i. omega (arith, c.type_inv.s i)) a.at 8 k (omega arith)
